-- The ranks below the level have their needs; every rank is below the number of chains, so the entry has its own.
use Prim.Native.Nat.{ℕ}
use Rattle.calls.specs.Weights.{rank_in}
use Rattle.room.specs.declared.Need.{Need}
use Rattle.room.specs.Capped.{kept, Kept, Counting, Upto}
use Rattle.room.proofs.room.Given as goal

abbrev pub invariant-loop-level : goal.invariant-loop-level
invariant-loop-level l =
    Kept l.needs × ((f : ℕ → Need) → Counting l.contents (rank_in l.ranks) f → Upto l.contents.chains (rank_in l.ranks) f l.level (kept l.needs))
