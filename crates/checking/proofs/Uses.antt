-- What a checked book gives to whoever goes on with it.
use Rattle.std.proofs.Common.{◌≡◌, ℕ, List, refl, sym, ap, ◌∙◌}
use Rattle.std.specs.Prelude.{Result, Ok, Err}
use Rattle.model.specs.Answer.{Answer, fine, refused}
use Rattle.model.specs.Tree.{Book}
use Rattle.model.specs.Book.{book_of}
use Rattle.model.specs.Calls.{checked, readable}
use Rattle.model.proofs.Placed.{readable_read}
use Rattle.refusals.specs.Refusals.{number_of, told_as}
use Rattle.refusals.proofs.Unique.{value_in}
use Rattle.book.specs.Contents.{verdict_number, contents_of, Charted}
use Rattle.book.specs.Told.{book_answer}
use Rattle.book.specs.declared.Contents.{Contents}
use Rattle.book.proofs.Charts.{contents_charted, contents_policy}
use Rattle.calls.specs.Checked.{Passes}
use Rattle.calls.proofs.Charted.{passes}
use Rattle.checking.specs.Checks.{contents_read, contents_in, contents_out, plain, Checks, CheckedFrom}
use Rattle.checking.specs.declared.Checked.{Checked}
use Rattle.checking.specs.declared.Unfit.{Unfit}

-- what an answer of the check says
said : Result Checked Unfit → Answer Contents
said r = told_as (λ (k : Checked). k.contents) (plain r)

module _ (s : List ℕ) (r : Result Checked Unfit) (h : Checks s r) where
  -- contents and ranks come from a book that is read
  pub from_ok : (k : Checked) → r ≡ Ok k → CheckedFrom s k
  unfolding said
  from_ok k e = go (readable s) refl (sym (ap said e) ∙ h.answer)
    where
      go : (a : Answer Book) → readable s ≡ a → fine k.contents ≡ contents_read a → CheckedFrom s k
      go (fine b) q f = record { book = b; read = q; contents = ap (value_in k.contents) f; ranked = h.ranked k e }
      go (refused n p) q f = absurd (cc)

  -- and a refusal is document 01's
  pub from_err : (u : Unfit) → r ≡ Err u → readable s ≡ refused (number_of u.refusal.fault) u.refusal.place
  unfolding said
  from_err u q = go (readable s) (sym (ap said q) ∙ h.answer)
    where
      go : (a : Answer Book) → refused (number_of u.refusal.fault) u.refusal.place ≡ contents_read a → a ≡ refused (number_of u.refusal.fault) u.refusal.place
      go (fine b) f = absurd (cc)
      go (refused n p) f = cc

  -- with the contents that were read beside it
  pub beside_err : (u : Unfit) → r ≡ Err u → u.contents ≡ contents_in (book_answer (book_of s))
  beside_err u q = sym (ap contents_out q) ∙ h.contents

-- the contents are those of the book
pub same_book : (s : List ℕ) (k : Checked) → CheckedFrom s k → (b : Book) → readable s ≡ fine b → k.contents ≡ contents_of b
same_book s k h b e = let same : h.book ≡ b = cc in h.contents ∙ ap contents_of same

module _ (s : List ℕ) (b : Book) (e : readable s ≡ fine b) where
  pub readable_charted : Charted b (contents_of b)
  readable_charted = let r = readable_read s b e in contents_charted s b r.0 r.1

  pub readable_passes : Passes b
  unfolding readable
  readable_passes = let r = readable_read s b e in passes b r.0 (ap checked (sym r.1) ∙ e)

  pub readable_policy : b.policy ≡ verdict_number (contents_of b).policy
  readable_policy = let r = readable_read s b e in contents_policy s b r.0 r.1
