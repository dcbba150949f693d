-- Numbers as words, and the answer of the check of a book in words. Assumes nothing.
use Rattle.std.proofs.Common.{◌≡◌, ℕ, ◌+◌, ◌≤◌, ◌<◌, List, ◌∙◌, ap, arith, Result, Ok, Err}
use Rattle.std.specs.Result.{OkIff, result_unwrap_or}
use lib.Dec.{leb}
use borrow.Author.Tests.{le-leb, lt-leb}
use Rattle.model.specs.Limits.{greatest}
use Rattle.model.specs.Entries.{check_entry}
use Rattle.refusals.specs.Refusals.{number_of}
use Rattle.book.specs.Contents.{contents_of}
use Rattle.checking.specs.Checks.{Checks}
use Rattle.checking.specs.declared.Checked.{Checked}
use Rattle.checking.specs.declared.Unfit.{Unfit}
use Rattle.checking.proofs.Uses.{from_ok, from_err}
use Rattle.reviewer.specs.Words.{word, refusal_words, given_words, check_words}

pub fits : (x : ℕ) → x ≤ greatest → x ≡ word x
unfolding word
fits x h = let k : leb x greatest ≡ _ = le-leb x greatest h in rw k

pub too_large : (x : ℕ) → greatest < x → greatest ≡ word x
unfolding word
too_large x h = let k : leb x greatest ≡ _ = lt-leb x greatest h in rw k

-- a number as a word, or else the greatest
pub told : {E : Type 0} (r : Result ℕ E) (x : ℕ) → OkIff r (x < greatest + 1) x → result_unwrap_or r greatest ≡ word x
told (Ok y) x h = h.1 ∙ fits x (omega (arith, h.0))
told (Err e) x h = too_large x (omega (arith, h))

-- the check's answer in words
module _ (s : List ℕ) (r : Result Checked Unfit) (h : Checks s r) where
  pub check_refused : (u : Unfit) → r ≡ Err u → refusal_words (number_of u.refusal.fault) u.refusal.place ≡ check_words (check_entry s)
  unfolding check_entry
  check_refused u q = let k = from_err s r h u q in rw k

  pub check_fine : (k : Checked) → r ≡ Ok k → given_words (word k.contents.chains) (word k.contents.rules) 0 ≡ check_words (check_entry s)
  unfolding check_entry contents_of
  check_fine k q = let f = from_ok s r h k q in rw f.read (ap (λ c. given_words (word c.chains) (word c.rules) 0) f.contents)
