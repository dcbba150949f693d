-- A book's contents, by which words are told to be conditions. Definitions only.
use Rattle.std.specs.Prelude.{Bool, true, false, List, ℕ, ◌≡◌}
use Rattle.std.proofs.Math.Option.{Option, none, some}
use Rattle.model.specs.Answer.{fine}
use Rattle.model.specs.Tree.{Book}
use Rattle.model.specs.Calls.{readable}
use Rattle.book.specs.Contents.{contents_of}
use Rattle.book.specs.declared.Contents.{Contents}

abbrev pub found : {A : Type 0} → Option A → Bool
found none = false
found (some a) = true

-- these are the contents of a book that was read out of some bytes
pub record Known (k : Contents) (b : Book) : Type 0 where
  pub bytes : List ℕ
  pub read : readable bytes ≡ fine b
  pub contents : k ≡ contents_of b

-- of some book, and of whatever book has them
pub record HasBook (k : Contents) : Type 0 where
  pub book : Book
  pub known : Known k book

abbrev pub OfBook : Contents → (Book → Type 0) → Type 0
OfBook k goal = (b : Book) → Known k b → goal b
