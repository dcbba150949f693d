-- The ranks below the level have their weights; every rank is below the number of chains.
use Rattle.std.proofs.Common.{ℕ}
use Rattle.calls.specs.Weights.{rank_in, AllCapped, Weighing, Upto}
use Rattle.calls.proofs.weights.Given as goal

abbrev pub invariant-loop-level : goal.invariant-loop-level
invariant-loop-level l =
    AllCapped l.weights × ((w : ℕ → ℕ) → Weighing l.contents (rank_in l.ranks) w → Upto l.contents.chains (rank_in l.ranks) w l.level l.weights)
