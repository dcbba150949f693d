-- What unfolding relies on, and what it leaves in the lent words.
use Rattle.std.specs.Prelude.{ℕ, ◌≤◌, ◌≡◌, List, length}
use Rattle.model.specs.Limits.{book_bytes}
use Rattle.model.specs.Answer.{fine}
use Rattle.model.specs.Tree.{Book, Rule, place_of, Every}
use Rattle.model.specs.Calls.{LoopFree}
use Rattle.model.specs.Unfolding.{list_of, words_of}
use Rattle.model.specs.Entries.{filled}
use Rattle.book.specs.Contents.{Charted}
use Rattle.book.specs.declared.Contents.{Contents}

-- the contents and the policy are those of b
pub record Holds (b : Book) (k : Contents) (policy : ℕ) : Type 0 where
  pub charted : Charted b k
  pub ends : b.policy ≡ policy

-- no expression stands further on than a book is long, so a condition is a word of 32 bits
abbrev pub Near : Book → Type 0
Near b = Every (Every (λ (r : Rule). place_of r.match ≤ book_bytes)) b.chains

-- They are those of a book without loops, and its list has room.
pub record Unfoldable (k : Contents) (policy space : ℕ) : Type 0 where
  pub book : Book
  pub holds : Holds book k policy
  pub free : LoopFree book
  pub near : Near book
  pub room : length (words_of (list_of book)) ≤ space

-- the first words are those of b's list, the others as they were
pub record Listed (b : Book) (before : List ℕ) (count : ℕ) (now : List ℕ) : Type 0 where
  pub counted : count ≡ length (words_of (list_of b))
  pub words : now ≡ filled before (fine b)

-- of whatever book the contents are
abbrev pub Unfolded : Contents → ℕ → List ℕ → ℕ → List ℕ → Type 0
Unfolded k policy before count now = (b : Book) → Holds b k policy → Listed b before count now
