-- A book that is read can be unfolded, where its list has room.
use Prim.Native.Nat.{ℕ, zero, ◌≤◌}
use native.Mathlib.Omega.{arith}
use mathlib.Core.Path.{◌≡◌, refl}
use mathlib.Core.Bool.{Bool, true, false}
use mathlib.Core.List.{List}
use mathlib.Core.Option.{Option, none, some}
use lib.Dec.{leb}
use lib.ListN.{length}
use borrow.Author.Tests.{leb-true}
use Rattle.model.specs.Limits.{book_bytes, weight_most}
use Rattle.model.specs.Answer as answer
use Rattle.model.specs.Answer.{fine, when}
use Rattle.model.specs.Reader.{Read, got, refused}
use Rattle.model.specs.Tree.{Book, Rule, place_of, Every}
use Rattle.model.specs.Book.{whole_book, start, book_of}
use Rattle.model.specs.Calls.{readable, checked, lowest_loop, weight}
use Rattle.model.specs.Standing.{RuleStands, BookStands}
use Rattle.model.specs.Unfolding.{list_of, words_of}
use Rattle.model.proofs.NumberPast.{number_past}
use Rattle.model.proofs.EveryRule.{every_as}
use Rattle.model.proofs.Success.{Fine, fine_is, Got, got_when}
use Rattle.model.proofs.Placed.{readable_placed}
use Rattle.model.proofs.BookRead.{readable_is}
use Rattle.book.specs.declared.Contents.{Contents}
use Rattle.unfolding.specs.Unfolded.{Holds, Near, Unfoldable}

always : {A : Type 0} {P : Type 0} → P → (m : Read A) → Got m (λ a st. P)
always p (got a st) = p
always p (refused n k) = tt

book_short : (s : List ℕ) → Got (book_of s) (λ b st. length s ≤ book_bytes)
unfolding book_of
book_short s = got_when (leb (length s) book_bytes) _ _ _ (λ e. always (leb-true (length s) book_bytes e) (whole_book s start)) (λ e. tt)

-- the checks for loops and weight hand the book on
checked_on : (P : Type 0) (r : Read Book) → Got r (λ b st. P) → Fine (checked r) (λ b. P)
checked_on P (refused n p) h = tt
checked_on P (got b st) h = loop (lowest_loop (length b.chains) zero b) refl
  where
    light : (t : Bool) → Fine (when t (fine b) (answer.refused 10 0)) (λ b. P)
    light true = h
    light false = tt

    loop : (o : Option ℕ) → lowest_loop (length b.chains) zero b ≡ o → Fine (checked (got b st)) (λ b. P)
    loop none e = rw e (light (leb (weight (length b.chains) b zero) weight_most))
    loop (some c) e = rw e tt

module _ (s : List ℕ) (b : Book) (e : readable s ≡ fine b) where
  short : length s ≤ book_bytes
  unfolding readable
  short = fine_is (λ b. length s ≤ book_bytes) (readable s) b (checked_on (length s ≤ book_bytes) (book_of s) (book_short s)) e

  rule_near : (r : Rule) → RuleStands s r → place_of r.match ≤ book_bytes
  rule_near r h = let p = number_past s (place_of r.match) _ _ h.1.stands in omega (arith, short, p.0, p.1)

  near : Near b
  near = every_as (Every (RuleStands s)) (Every (λ (r : Rule). place_of r.match ≤ book_bytes)) (λ rs. every_as (RuleStands s) (λ (r : Rule). place_of r.match ≤ book_bytes) rule_near rs) b.chains
      (fine_is (BookStands s) (readable s) b (readable_placed s) e)

  pub readable_unfoldable : {k : Contents} {policy space : ℕ} → Holds b k policy → length (words_of (list_of b)) ≤ space → Unfoldable k policy space
  readable_unfoldable h room = record { book = b; holds = h; free = (readable_is s b e).free; near = near; room = room }
