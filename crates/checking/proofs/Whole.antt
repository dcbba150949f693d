-- What a book's reading says of the book, and the check of its calls on top of it.
use Rattle.std.proofs.Common.{◌≡◌, ℕ, ◌<◌, List, get_or, refl, sym, ap, ◌∙◌, subst}
use Rattle.std.specs.Prelude.{Some, Result, Ok, Err}
use Rattle.model.specs.Answer.{fine, refused}
use Rattle.model.specs.Reader as reader
use Rattle.model.specs.Reader.{Stand, Read, got}
use Rattle.model.specs.Tree.{Book}
use Rattle.model.specs.Book.{book_of}
use Rattle.model.specs.Calls.{checked, readable}
use Rattle.refusals.specs.Refusals.{number_of, told, told_as}
use Rattle.refusals.specs.declared.Refusal.{Refusal}
use Rattle.refusals.proofs.Unique.{value_in}
use Rattle.book.specs.Contents.{contents_of, Shape, Charted}
use Rattle.book.specs.Told.{book_answer}
use Rattle.book.specs.declared.Contents.{Contents}
use Rattle.book.proofs.Charts.{contents_charted}
use Rattle.calls.specs.Sets.{rank_of}
use Rattle.calls.specs.Reached.{Reached}
use Rattle.calls.specs.Weights.{rank_in, Ranked}
use Rattle.calls.proofs.Charted.{passed_ranks}
use Rattle.checking.specs.Checks.{contents_read, contents_in, unread, RanksCalls, Checks}
use Rattle.checking.specs.declared.Checked.{Checked}
use Rattle.checking.specs.declared.Unfit.{Unfit}

-- a book that was read to its end
pub record ReadTo (s : List ℕ) (k : Contents) : Type 0 where
  pub book : Book
  pub stand : Stand
  pub read : book_of s ≡ got book stand
  pub contents : k ≡ contents_of book

pub refused_checks : (s : List ℕ) (u : Unfit) → refused (number_of u.refusal.fault) u.refusal.place ≡ contents_read (readable s) → u.contents ≡ contents_in (book_answer (book_of s))
    → Checks s (Err u)
refused_checks s u h beside = record { answer = h; contents = beside; ranked = λ k q. absurd (cc) }

module _ (s : List ℕ) (r : Result Contents Refusal) (h : told r ≡ book_answer (book_of s)) where
  pub read_to : (k : Contents) → r ≡ Ok k → ReadTo s k
  unfolding book_answer
  read_to k q = go (book_of s) refl (sym (ap told q) ∙ h)
    where
      go : (a : Read Book) → book_of s ≡ a → fine k ≡ book_answer a → ReadTo s k
      go (got b st) p f = record { book = b; stand = st; read = p; contents = ap (value_in k) f }
      go (reader.refused n p) q f = absurd (cc)

  pub read_refused : (e : Refusal) → r ≡ Err e → Checks s (Err (unread e))
  unfolding book_answer readable
  read_refused e q = let same = sym (ap told q) ∙ h in refused_checks s (unread e) (go (book_of s) same) (ap contents_in same)
    where
      go : (a : Read Book) → refused (number_of e.fault) e.place ≡ book_answer a → refused (number_of e.fault) e.place ≡ contents_read (checked a)
      go (got b st) f = absurd (cc)
      go (reader.refused n p) f = f

-- what the check of the calls says of a book
pub calls_refused : (k : Contents) (b : Book) (st : Stand) (e : Refusal) → refused (number_of e.fault) e.place ≡ checked (got b st) → RanksCalls k b st (Err e)
calls_refused k b st e h = record { answer = h; ranked = λ ranks q. absurd (cc) }

pub calls_pass : {b : Book} {k : Contents} → Charted b k → (st : Stand) → fine b ≡ checked (got b st) → (sets : List ℕ) → Reached b sets
    → (ranks : List ℕ) → ((c : ℕ) → c < k.chains → get_or ranks c 0 ≡ rank_of sets c) → RanksCalls k b st (Ok ranks)
calls_pass {b = b} {k = k} chart st h sets all ranks each =
    let falls = passed_ranks chart st (sym h) sets all ranks each in
    record { answer = h; ranked = λ r q. let same : ranks ≡ r = cc in subst (λ (r : List ℕ). Ranked k (rank_in r)) same falls }

module _ {s : List ℕ} {k : Contents} (t : ReadTo s k) where
  pub charted : Charted t.book k
  charted = subst (Charted t.book) (sym t.contents) (contents_charted s t.book t.stand t.read)

  pub shape : Shape k
  shape = charted.shape

  readable_as : readable s ≡ checked (got t.book t.stand)
  unfolding readable
  readable_as = ap checked t.read

  -- the contents that go on are those of the reading
  as_read : Some k ≡ contents_in (book_answer (book_of s))
  unfolding book_answer
  as_read = ap Some t.contents ∙ ap (λ (r : Read Book). contents_in (book_answer r)) (sym t.read)

  -- what the check of the calls says is what document 01 says
  module _ (r : Result (List ℕ) Refusal) where
    pub checks_refused : (e : Refusal) → RanksCalls k t.book t.stand r → r ≡ Err e → Checks s (Err (record { contents = Some k; refusal = e }))
    checks_refused e h q =
        refused_checks s (record { contents = Some k; refusal = e }) (ap contents_read (sym (ap (told_as (λ (ranks : List ℕ). t.book)) q) ∙ h.answer ∙ sym readable_as)) as_read

    pub checks_pass : (ranks : List ℕ) → RanksCalls k t.book t.stand r → r ≡ Ok ranks → Checks s (Ok (record { contents = k; ranks = ranks }))
    checks_pass ranks h q =
        let falls = h.ranked ranks q in
        let both : Checked = record { contents = k; ranks = ranks } in
        record {
          answer = ap fine t.contents ∙ ap contents_read (sym (ap (told_as (λ (ranks : List ℕ). t.book)) q) ∙ h.answer ∙ sym readable_as);
          contents = as_read;
          ranked = λ c p. let same : both ≡ c = cc in subst (λ (c : Checked). Ranked c.contents (rank_in c.ranks)) same falls;
        }
