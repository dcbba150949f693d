-- What checking a book answers.
use Rattle.std.specs.Prelude.{ℕ, List, ◌≡◌, Option, Some, None, Result, Ok, Err}
use Rattle.model.specs.Answer.{Answer, fine, refused}
use Rattle.model.specs.Tree.{Book}
use Rattle.model.specs.Reader.{Stand, got}
use Rattle.model.specs.Book.{book_of}
use Rattle.model.specs.Calls.{readable, checked}
use Rattle.refusals.specs.Refusals.{told_as}
use Rattle.refusals.specs.declared.Refusal.{Refusal}
use Rattle.book.specs.Contents.{contents_of}
use Rattle.book.specs.Told.{book_answer}
use Rattle.book.specs.declared.Contents.{Contents}
use Rattle.calls.specs.Weights.{rank_in, Ranked}
use Rattle.checking.specs.declared.Checked.{Checked}
use Rattle.checking.specs.declared.Unfit.{Unfit}

-- the contents of a book that is read
abbrev pub contents_read : Answer Book → Answer Contents
contents_read (fine b) = fine (contents_of b)
contents_read (refused n p) = refused n p

-- 9 and 10 of the book that the contents are of; else ranks that fall at each of its calls
pub record RanksCalls (k : Contents) (b : Book) (st : Stand) (r : Result (List ℕ) Refusal) : Type 0 where
  pub answer : told_as (λ (ranks : List ℕ). b) r ≡ checked (got b st)
  pub ranked : (ranks : List ℕ) → r ≡ Ok ranks → Ranked k (rank_in ranks)

-- a refusal of the reading alone
abbrev pub unread : Refusal → Unfit
unread refusal = record { contents = None; refusal = refusal }

-- the answer without the contents that stand beside a refusal
abbrev pub plain : Result Checked Unfit → Result Checked Refusal
plain (Ok k) = Ok k
plain (Err u) = Err u.refusal

-- the contents that are handed out, refused or not
abbrev pub contents_out : Result Checked Unfit → Option Contents
contents_out (Ok k) = Some k.contents
contents_out (Err u) = u.contents

-- the contents as the book was read: none, where it was not read to its end
abbrev pub contents_in : Answer Contents → Option Contents
contents_in (fine k) = Some k
contents_in (refused n p) = None

-- the refusals of document 01 in their order, else the contents of the book; the contents as the book was read, beside a refusal too;
-- and ranks that fall at each call of a book that is not refused
pub record Checks (s : List ℕ) (r : Result Checked Unfit) : Type 0 where
  pub answer : told_as (λ (k : Checked). k.contents) (plain r) ≡ contents_read (readable s)
  pub contents : contents_out r ≡ contents_in (book_answer (book_of s))
  pub ranked : (k : Checked) → r ≡ Ok k → Ranked k.contents (rank_in k.ranks)

-- WHAT USERS GO BY: these are the contents and ranks of the book that was read out of s without refusal
pub record CheckedFrom (s : List ℕ) (k : Checked) : Type 0 where
  pub book : Book
  pub read : readable s ≡ fine book
  pub contents : k.contents ≡ contents_of book
  pub ranked : Ranked k.contents (rank_in k.ranks)

-- of some bytes
pub record Ready (k : Checked) : Type 0 where
  pub bytes : List ℕ
  pub from : CheckedFrom bytes k
