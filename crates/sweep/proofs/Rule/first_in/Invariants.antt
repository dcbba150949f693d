-- `sweep::Rule::first_in` meets its contract. The invariant: no source of the range below x may pass. Assumes nothing.
use Rattle.std.proofs.Common.{ℕ, ◌+◌, ◌-◌, ◌≤◌, ◌<◌, false, ◌≡◌}
use Rattle.sweep.specs.Sweep.{EachOf, passes}
use Rattle.sweep.proofs.Rule.first_in.Given as goal

abbrev pub invariant-loop-x : goal.invariant-loop-x
invariant-loop-x l = record {
  from : l.low ≤ l.x;
  none : EachOf l.self (λ cs. (y : ℕ) → l.low ≤ y → y < l.x → passes l.self.port cs y ≡ false);
}

abbrev pub decreases-loop-x : goal.decreases-loop-x
decreases-loop-x l = l.high + 1 - l.x
