-- The lower ranks have their needs, and of this rank the chains below c.
use Prim.Native.Nat.{ℕ}
use Rattle.book.specs.Contents.{Shape}
use Rattle.calls.specs.Weights.{rank_in}
use Rattle.room.specs.declared.Need.{Need}
use Rattle.room.specs.Capped.{kept, Kept, Counting, Upto}
use Rattle.room.proofs.Ranks.{Level}
use Rattle.room.proofs.count_rank.Given as goal

abbrev pub invariant-loop-c : goal.invariant-loop-c
invariant-loop-c l =
    let k = l.contents in
    Kept l.needs
    × ((f : ℕ → Need) (by : Counting k (rank_in l.ranks) f) (s : Shape k)
    → Upto k.chains (rank_in l.ranks) f l.level (kept l.initial.needs)
    → Level k l.level s (rank_in l.ranks) f by l.c (kept l.needs))
