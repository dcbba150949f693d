-- `plan::port_index` meets its contract. Assumes nothing.
use Rattle.std.proofs.Common.{rules, ◌∙◌, eqb, sym, tests, arith}
use Rattle.std.proofs.lemmas.Iterator.{YieldsList-from_slice}
use Rattle.std.proofs.lemmas.Iterator.Adapters.{position_from-zero}
use Rattle.std.proofs.lemmas.Iterator.Search.{position_from_yields_List}
use Rattle.plan.proofs.Asking.{asked_from}
use Rattle.plan.proofs.port_index.Goals as goal

pub returns : goal.returns
returns c =
    position_from_yields_List (λ x. eqb x c.args.port) _ _ c.position.result c.position.ensures.ran (YieldsList-from_slice _ c.iter.ensures.rest) (λ x b q k. search (rules, tests))
    ∙ position_from-zero (λ x. eqb x c.args.port) _ ∙ sym (asked_from c.args.plan.now.number c.args.port 0 c.args.plan.now.ports (omega arith))
