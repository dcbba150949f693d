-- The lower ranks have their weights, and of this rank the chains below c.
use Rattle.std.proofs.Common.{ℕ}
use Rattle.calls.proofs.Levels.{Level}
use Rattle.calls.specs.Weights.{rank_in, AllCapped, Weighing, Upto}
use Rattle.book.specs.Contents.{Shape}
use Rattle.calls.proofs.weigh_rank.Given as goal

abbrev pub invariant-loop-c : goal.invariant-loop-c
invariant-loop-c l =
    AllCapped l.weights
    × ((w : ℕ → ℕ) (by : Weighing l.contents (rank_in l.ranks) w) (s : Shape l.contents)
    → Upto l.contents.chains (rank_in l.ranks) w l.level l.initial.weights
    → Level l.contents l.level s (rank_in l.ranks) w by l.c l.weights)
