-- `sweep::Rule::keep_range` meets its contract. The invariant: the slots hold, below x, the writing of any P that is what stays of the range. Assumes nothing.
use Rattle.std.proofs.Common.{ℕ, ◌-◌, ◌≤◌, Bool, ◌≡◌}
use Rattle.suspects.specs.Build.{HeldIn, Filled}
use Rattle.sweep.specs.Sweep.{EachOf, stays}
use Rattle.sweep.proofs.Rule.keep_range.Given as goal

abbrev pub invariant-loop-last : goal.invariant-loop-last
invariant-loop-last l = record {
  from : l.low ≤ l.x;
  upto : l.x ≤ l.high;
  filled : Filled l.left;
  held : EachOf l.self (λ cs. (P : ℕ → Bool) → HeldIn P l.low l.initial.left
      → ((y : ℕ) → l.low ≤ y → y ≤ l.high → P y ≡ stays l.self.port cs y) → HeldIn P l.x l.left);
}

abbrev pub decreases-loop-last : goal.decreases-loop-last
decreases-loop-last l = l.high - l.x
