-- A book that was read meets what walking its chains and its list rely on. Assumes nothing.
use Rattle.std.proofs.Common.{ℕ, List, ◌≡◌, refl, sym, subst}
use Rattle.model.specs.Answer.{fine}
use Rattle.model.specs.Calls.{readable}
use Rattle.model.specs.Tree.{Book}
use Rattle.model.specs.Standing.{BookStands}
use Rattle.model.specs.Unfolding.{list_of, words_of}
use Rattle.model.proofs.Success.{fine_is}
use Rattle.model.proofs.Placed.{readable_placed, list_placed}
use Rattle.book.specs.Contents.{Charted}
use Rattle.book.specs.declared.Contents.{Contents}
use Rattle.walks.specs.Walks.{counting, Kept, Keeping, HasChains}
use Rattle.walks.specs.Lists.{Lists, Listing}

pub read_stands : (s : List ℕ) (b : Book) → readable s ≡ fine b → BookStands s b
read_stands s b e = fine_is (BookStands s) (readable s) b (readable_placed s) e

-- its chains, by the contents
pub kept_of : (s : List ℕ) (b : Book) (k : Contents) → BookStands s b → Charted b k → Kept s k b
kept_of s b k stands c = record { charted = subst (λ n. Charted b (counting k n)) (sym c.total) c; stands = stands }

pub keeping_of : (s : List ℕ) (b : Book) (k : Contents) → BookStands s b → Charted b k → Keeping s k (HasChains k.chains)
keeping_of s b k stands c = record { book = b; kept = kept_of s b k stands c; so = c.count }

-- its list
module _ (s : List ℕ) (b : Book) (stands : BookStands s b) where
  pub lists_of : Lists s (words_of (list_of b)) (list_of b)
  lists_of = record { are = refl; placed = list_placed s b stands }

  pub listing_of : Listing s (words_of (list_of b))
  listing_of = record { list = list_of b; lists = lists_of }
