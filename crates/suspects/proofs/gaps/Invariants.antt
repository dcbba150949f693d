-- `suspects::gaps` meets its contract. The invariant: of whatever rising ranges these are, the complement below `next` is held, and the ranges
-- that are left lie ahead. Assumes nothing.
use Rattle.std.proofs.Common.{ℕ, ◌+◌, ◌-◌, ◌≤◌, length}
use Rattle.model.specs.Limits.{greatest, spans_most}
use Rattle.model.specs.Spans.{Spans}
use Rattle.suspects.specs.Slots.{RangesAs}
use Rattle.suspects.proofs.Between.{Gapped}
use Rattle.suspects.proofs.gaps.Given as goal

abbrev pub invariant-loop-from : goal.invariant-loop-from
invariant-loop-from l = record {
  fits : l.next ≤ greatest + 1;
  few : l.set.count ≤ length l.yielded;
  gapped : (ranges : Spans) (top : ℕ) → RangesAs l.low l.high ranges top
      → Gapped spans_most greatest ranges top l.low l.high l.next (length l.yielded) (length l.low - length l.yielded) l.set.count l.set.low l.set.high;
}
