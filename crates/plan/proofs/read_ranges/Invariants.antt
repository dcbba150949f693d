-- `plan::read_ranges` meets its contract. The loop's invariant: to write the ranges that are left is to write all. Assumes nothing.
use Rattle.std.specs.Prelude.{Result}
use Rattle.std.proofs.Common.{ℕ, ◌+◌, ◌-◌}
use Rattle.model.specs.Plan.{ranges_from}
use Rattle.refusals.specs.declared.Refusal.{Refusal}
use Rattle.plan.specs.declared.PlanContents.{PlanContents}
use Rattle.plan.specs.Written.{standing, RangesAre}
use Rattle.plan.proofs.read_ranges.Given as goal

abbrev pub invariant-loop-i : goal.invariant-loop-i
invariant-loop-i l =
    (r : Result ℕ Refusal) (c : PlanContents)
    → RangesAre (l.to + l.count - l.i) l.i l.contents c r (ranges_from (l.to + l.count - l.i) l.least l.s (standing l.next))
    → RangesAre l.count l.to l.initial.contents c r (ranges_from l.count 0 l.s (standing l.at))
