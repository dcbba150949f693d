-- `plan::plan_field` meets its contract. Assumes nothing.
use Rattle.std.proofs.Common.{rules}
use Rattle.plan.proofs.Readings.{field_answer}
use Rattle.plan.proofs.plan_field.Goals as goal

pub returns : goal.returns
returns c = field_answer _ _ _ _ _ (λ e d p. search rules) _ _ c.read_field.ensures c.map_err.ensures.cases
