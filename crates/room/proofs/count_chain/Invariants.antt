-- What was counted, with the rules from here on, comes to the need of c, up to the most.
use Prim.Native.Nat.{ℕ, suc, ◌+◌, ◌≤◌}
use mathlib.Core.Path.{◌≡◌}
use Rattle.book.specs.Contents.{first_of}
use Rattle.room.specs.declared.Need.{Need}
use Rattle.room.specs.Capped.{least, Small, kept, Known}
use Rattle.room.proofs.Steps.{more, left}
use Rattle.room.proofs.count_chain.Given as goal

abbrev pub invariant-loop-rule : goal.invariant-loop-rule
invariant-loop-rule l =
    let k = l.contents in
    let end = first_of k (l.c + 1) in
    (1 ≤ l.held) × (l.held ≤ suc l.rule-index) × Small l.need
    × ((f : ℕ → Need) → Known k f (kept l.needs) l.c
    → least (more l.need (left k f end l.held (first_of k l.c + l.rule-index))) ≡ least (left k f end 1 (first_of k l.c)))
