-- Each answer is one: two that meet a statement are equal.
use Rattle.std.specs.Prelude.{ℕ, List, Result}
use Rattle.std.proofs.Common.{◌≡◌, sym, ◌∙◌}
use Rattle.model.specs.Book.{book_of}
use Rattle.refusals.specs.Refusals.{told}
use Rattle.refusals.specs.declared.Refusal.{Refusal}
use Rattle.refusals.proofs.Unique.{one_told}
use Rattle.book.specs.Told.{book_answer}
use Rattle.book.specs.declared.Contents.{Contents}

pub one_book_answer : (s : List ℕ) (a b : Result Contents Refusal) → told a ≡ book_answer (book_of s) → told b ≡ book_answer (book_of s) → a ≡ b
one_book_answer s a b p q = one_told a b (p ∙ sym q)
