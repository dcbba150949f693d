-- The whole book, from its beginning to its end: one law for each way through the code.
use Prim.Native.Nat.{ℕ, suc, ◌≤◌, ◌<◌}
use mathlib.Core.List.{List, []}
use mathlib.Core.Path.{◌≡◌, sym, ap, ◌∙◌, subst}
use native.Mathlib.Omega.{arith}
use native.Mathlib.Nat.{sub-zero}
use lib.ListN.{length, replicate}
use borrow.Author.Tests.{le-leb, lt-leb, eq-eqb, ne_eqb}
use Rattle.model.specs.Answer as answer
use Rattle.model.specs.Answer.{Answer, fine}
use Rattle.model.specs.Limits.{book_bytes, chains_most, rules_most}
use Rattle.model.specs.Reader.{Stand, Read, got, refused, after}
use Rattle.model.specs.Tree.{Rule, Book}
use Rattle.model.specs.Book.{within, chain, end, whole_book, book_of, start}
use Rattle.model.proofs.Success as success
use Rattle.model.proofs.Success.{Moved, within_got}
use Rattle.model.proofs.Filling.{padded_zero}
use Rattle.numbers.specs.Told.{numbered}
use Rattle.numbers.specs.Field.{field_at}
use Rattle.numbers.specs.declared.Number.{Number}
use Rattle.expressions.specs.Told.{stand}
use Rattle.book.specs.Contents.{verdict_of, starts, no_note, notes_of, contents_of}
use Rattle.book.specs.Told.{book_answer}
use Rattle.book.specs.Inner.{Finds, answered, all_chains, place_after}
use Rattle.book.specs.Held.{charting}
use Rattle.book.specs.declared.Contents.{Contents}
use Rattle.book.specs.declared.Verdict.{Verdict}
use Rattle.book.proofs.Afterwards.{field_read, answered_refusal, after_got, after_refused, each_sized}

-- before the first chain no slot is used
abbrev pub none_yet : Verdict → ℕ → Contents
none_yet policy chains = record { policy = policy; chains = chains; rules = 0; first = replicate (suc chains_most) 0; noted = replicate rules_most no_note }

pub charting_none : (policy : Verdict) (chains : ℕ) → none_yet policy chains ≡ charting (none_yet policy chains) [] 0
unfolding starts
charting_none policy chains =
    let blanks : replicate rules_most no_note ≡ notes_of [] = ap (λ (m : ℕ). replicate m no_note) (sym (sub-zero rules_most)) in
    λ i. record { policy = policy; chains = chains; rules = 0; first = padded_zero chains_most i; noted = blanks i }

module _ (s : List ℕ) where
  abbrev Is : Answer Contents → Type 0
  Is a = a ≡ book_answer (book_of s)

  pub too_long : book_bytes < length s → Is (answer.refused 1 0)
  unfolding book_of book_answer
  too_long h = rw (lt-leb (length s) book_bytes h)

  refused_so : (n p : ℕ) → book_of s ≡ refused n p → Is (answer.refused n p)
  unfolding book_answer
  refused_so n p e = sym (ap book_answer e)

  module _ (short : length s ≤ book_bytes) where
    short_enough : book_of s ≡ whole_book s start
    unfolding book_of
    short_enough = rw (le-leb (length s) book_bytes short)

    pub edition_refused : (n p : ℕ) → answer.refused n p ≡ numbered 0 (field_at s 0 1 1) → Is (answer.refused n p)
    edition_refused n p e = refused_so n p (short_enough ∙ after_refused (within 1 1 s start) _ n p (field_read s start 1 1 _ e))

    module _ (edition : Number) (e : fine edition ≡ numbered 0 (field_at s 0 1 1)) where
      -- where the count of chains stands
      abbrev counting : Stand
      counting = stand edition.next 0 0

      edition_read : within 1 1 s start ≡ got edition.value counting
      edition_read = field_read s start 1 1 _ e

      pub count_refused : (n p : ℕ) → answer.refused n p ≡ numbered edition.next (field_at s edition.next 1 chains_most) → Is (answer.refused n p)
      count_refused n p f = refused_so n p (short_enough ∙ after_got (within 1 1 s start) _ _ _ edition_read
          ∙ after_refused (within 1 chains_most s counting) _ n p (field_read s counting 1 chains_most _ f))

      module _ (count : Number) (f : fine count ≡ numbered edition.next (field_at s edition.next 1 chains_most)) where
        -- where the policy stands
        abbrev ruling : Stand
        ruling = stand count.next 0 0

        count_read : within 1 chains_most s counting ≡ got count.value ruling
        count_read = field_read s counting 1 chains_most _ f

        pub few : count.value ≤ chains_most
        few = (subst (λ (m : Read ℕ). success.Got m (λ n st'. (1 ≤ n) × (n ≤ chains_most) × Moved s counting st')) count_read (within_got 1 chains_most s counting)).1

        pub policy_refused : (n p : ℕ) → answer.refused n p ≡ numbered count.next (field_at s count.next 0 1) → Is (answer.refused n p)
        policy_refused n p g = refused_so n p (short_enough ∙ after_got (within 1 1 s start) _ _ _ edition_read
            ∙ after_got (within 1 chains_most s counting) _ _ _ count_read
            ∙ after_refused (within 0 1 s ruling) _ n p (field_read s ruling 0 1 _ g))

        module _ (policy : Number) (g : fine policy ≡ numbered count.next (field_at s count.next 0 1)) where
          abbrev chain_reads : Read (List (List Rule))
          chain_reads = all_chains count.value s (stand policy.next 0 0)

          ended : List (List Rule) → Stand → Read Book
          ended cs st = after (end s st) (λ e st'. got (record { policy = policy.value; total = st.rules; chains = cs }) st')

          header_read : book_of s ≡ after chain_reads ended
          unfolding ended
          header_read = short_enough ∙ after_got (within 1 1 s start) _ _ _ edition_read
              ∙ after_got (within 1 chains_most s counting) _ _ _ count_read
              ∙ after_got (within 0 1 s ruling) _ _ _ (field_read s ruling 0 1 _ g)

          pub chains_refused : (n p : ℕ) → answer.refused n p ≡ answered place_after chain_reads → Is (answer.refused n p)
          chains_refused n p h = refused_so n p (header_read ∙ after_refused chain_reads _ n p (answered_refusal place_after chain_reads n p h))

          pub bytes_after : (next : ℕ) → fine next ≡ answered place_after chain_reads → (next ≡ length s → ⊥) → Is (answer.refused 8 next)
          unfolding ended
          bytes_after next h ne = refused_so 8 next (header_read ∙ go chain_reads h)
            where
              go : (m : Read (List (List Rule))) → fine next ≡ answered place_after m → after m ended ≡ refused 8 next
              go (got cs st) e = let q : st.at ≡ next = cc in rw (q, ne_eqb next (length s) ne)
              go (refused x y) e = let z : ◌≡◌ {A = ℕ} 0 1 = cc in absurd (omega arith)

          pub all_read : (next : ℕ) → fine next ≡ answered place_after chain_reads → next ≡ length s
              → (v : Verdict) → v ≡ verdict_of policy.value
              → (k : Contents) → Finds chain_reads (λ cs st. k ≡ charting (none_yet v count.value) cs st.rules) → Is (fine k)
          unfolding book_answer contents_of ended
          all_read next h eq v p k c =
              go chain_reads h c (each_sized (λ i. chain count.value) s count.value 0 (stand policy.next 0 0)) ∙ sym (ap book_answer header_read)
            where
              go : (m : Read (List (List Rule))) → fine next ≡ answered place_after m → Finds m (λ cs st. k ≡ charting (none_yet v count.value) cs st.rules)
                  → success.Got m (λ cs st'. length cs ≡ count.value) → fine k ≡ book_answer (after m ended)
              go (got cs st) e k n =
                  let q : st.at ≡ length s = (let q : st.at ≡ next = cc in q ∙ eq) in
                  rw (eq-eqb st.at (length s) q, k, p, ← n)
              go (refused x y) e k n = let z : ◌≡◌ {A = ℕ} 0 1 = cc in absurd (omega arith)
