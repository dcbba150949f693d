-- `sweep::drop_suspects` meets its contract. The invariant: of whatever set and conditions are there, what is left below some source is held, and
-- the ranges that are left lie ahead. Assumes nothing.
use Rattle.std.proofs.Common.{ℕ, ◌-◌, length}
use Rattle.model.specs.Limits.{spans_most}
use Rattle.model.specs.Spans.{Spans, minus, Rising}
use Rattle.model.specs.Review.{split_conditions}
use Rattle.suspects.specs.Slots.{writes}
use Rattle.sweep.specs.Sweep.{Each, stays}
use Rattle.sweep.proofs.Walk.{dropped, Swept}
use Rattle.sweep.proofs.drop_suspects.Given as goal

abbrev pub invariant-loop-low : goal.invariant-loop-low
invariant-loop-low l = Each l.s l.conditions (λ cs. (ss : Spans) (top : ℕ) (r : Rising top 0 ss) → writes l.suspects ss
    → Swept spans_most ss top l.suspects.low l.suspects.high (minus ss (split_conditions l.port cs).true) (stays l.port cs) (dropped l.port cs top ss r)
    (length l.yielded) (l.suspects.count - length l.yielded) l.left.count l.left.low l.left.high)
