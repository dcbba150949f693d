-- What unfolding a book answers, and the lent words after it.
use Rattle.std.specs.Prelude.{ℕ, List, ◌≡◌, length, Result}
use Rattle.model.specs.Answer.{Answer, fine, refused, ◌>>=◌}
use Rattle.model.specs.Tree.{Book}
use Rattle.model.specs.Entries.{room, Counts, counted, filled}
use Rattle.refusals.specs.Refusals.{told_as}
use Rattle.refusals.specs.declared.Refusal.{Refusal}
use Rattle.room.specs.declared.Need.{Need}

-- a need as the counts that unfolding answers
abbrev pub counts : Need → Counts
counts n = record { words = n.words; rules = n.rules }

-- the counts of b's list where the lent words have room for it
abbrev pub counts_of : Book → ℕ → Answer Counts
counts_of b lent = do
  list ← room lent b
  fine (counted list)

-- the lent words after it
abbrev pub left : Answer Counts → Book → List ℕ → List ℕ
left (fine c) b lent = filled lent (fine b)
left (refused n p) b lent = lent

pub record Lists (b : Book) (before : List ℕ) (r : Result Need Refusal) (after : List ℕ) : Type 0 where
  pub answer : told_as counts r ≡ counts_of b (length before)
  pub lent : after ≡ left (counts_of b (length before)) b before
