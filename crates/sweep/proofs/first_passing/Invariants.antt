-- `sweep::first_passing` meets its contract. The invariant: of whatever set and conditions are there, none may pass below some source, and the
-- ranges that are left lie ahead. Assumes nothing.
use Rattle.std.proofs.Common.{ℕ, ◌-◌, length}
use Rattle.model.specs.Limits.{spans_most}
use Rattle.model.specs.Spans.{Spans, minus, Rising}
use Rattle.model.specs.Review.{split_conditions}
use Rattle.suspects.specs.Slots.{writes}
use Rattle.sweep.specs.Sweep.{Each, passes}
use Rattle.sweep.proofs.Walk.{passing, Sought}
use Rattle.sweep.proofs.first_passing.Given as goal

abbrev pub invariant-loop-low : goal.invariant-loop-low
invariant-loop-low l = Each l.s l.conditions (λ cs. (ss : Spans) (top : ℕ) (r : Rising top 0 ss) → writes l.suspects ss
    → Sought spans_most ss top l.suspects.low l.suspects.high (minus ss (split_conditions l.port cs).false) (passes l.port cs) (passing l.port cs top ss r)
    (length l.yielded) (l.suspects.count - length l.yielded))
