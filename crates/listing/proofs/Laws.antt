-- The need of a book's list, by `room`, and its words, by `unfold`, are what unfolding answers and leaves.
use Rattle.std.proofs.Common.{◌≡◌, ℕ, ◌≤◌, ◌<◌, List, ◌++◌, length, drop, refl, sym, ap, subst, ◌∙◌, arith}
use Rattle.std.specs.Prelude.{Bool, true, false, leb, Result, Ok, Err}
use borrow.Author.Tests.{leb-true, le-leb, lt-leb}
use Rattle.model.specs.Answer.{Answer, fine, refused}
use Rattle.model.specs.Tree.{Book}
use Rattle.model.specs.Unfolding.{list_of, words_of}
use Rattle.model.specs.Calls.{readable}
use Rattle.model.specs.Entries.{room, Counts, counted, unfold_entry, words_after}
use Rattle.refusals.specs.Refusals.{number_of, refusal_at, told_as}
use Rattle.refusals.specs.declared.Refusal.{Refusal}
use Rattle.refusals.specs.declared.Fault.TheVariants.{NoRoom}
use Rattle.book.specs.Contents.{contents_of, verdict_number, Charted}
use Rattle.book.specs.declared.Contents.{Contents}
use Rattle.room.specs.declared.Need.{Need}
use Rattle.room.specs.Counting.{need_of}
use Rattle.unfolding.specs.Unfolded.{Holds, Listed, Unfoldable}
use Rattle.unfolding.proofs.Readable.{readable_unfoldable}
use Rattle.checking.proofs.Uses.{readable_charted, readable_policy}
use Rattle.listing.specs.Listings.{counts, counts_of, left, Lists}

-- b's list fits into the lent words, and it stands in the first of them
pub record ListedIn (b : Book) (before : List ℕ) (n : Need) (after : List ℕ) : Type 0 where
  pub fits : length (words_of (list_of b)) ≤ length before
  pub words : n.words ≡ length (words_of (list_of b))
  pub rules : n.rules ≡ length (list_of b)
  pub lent : after ≡ words_of (list_of b) ++ drop (length (words_of (list_of b))) before

module _ (b : Book) (before : List ℕ) where
  abbrev fits : Bool
  fits = leb (length (words_of (list_of b))) (length before)

  -- WHAT AN ANSWER SAYS
  pub listed_ok : (r : Result Need Refusal) (after : List ℕ) → Lists b before r after → (n : Need) → r ≡ Ok n → ListedIn b before n after
  listed_ok r after l n e = go fits refl
    where
      go : (t : Bool) → fits ≡ t → ListedIn b before n after
      go true q =
          let told : ◌≡◌ {A = Answer Counts} _ _ = sym (ap (told_as counts) e) ∙ rw q at l.answer in
          let same : counts n ≡ counted (list_of b) = cc in
          record {
            fits = leb-true (length (words_of (list_of b))) (length before) q;
            words = ap (λ c. c.words) same;
            rules = ap (λ c. c.rules) same;
            lent = rw q at l.lent;
          }
      go false q =
          let told : ◌≡◌ {A = Answer Counts} _ _ = sym (ap (told_as counts) e) ∙ rw q at l.answer in
          absurd (cc)

  -- AND WHAT A REFUSAL SAYS
  pub listed_err : (r : Result Need Refusal) (after : List ℕ) → Lists b before r after → (e : Refusal) → r ≡ Err e → (room (length before) b ≡ refused (number_of e.fault) e.place) × (after ≡ before)
  listed_err r after l e f = go fits refl
    where
      go : (t : Bool) → fits ≡ t → (room (length before) b ≡ refused (number_of e.fault) e.place) × (after ≡ before)
      go true q =
          let told : ◌≡◌ {A = Answer Counts} _ _ = sym (ap (told_as counts) f) ∙ rw q at l.answer in
          absurd (cc)
      go false q =
          let told : ◌≡◌ {A = Answer Counts} _ _ = sym (ap (told_as counts) f) ∙ rw q at l.answer in
          (rw q cc, rw q at l.lent)

module _ (s : List ℕ) (b : Book) (k : Contents) (e : readable s ≡ fine b) (q : k ≡ contents_of b) where
  pub charted : Charted b k
  charted = subst (Charted b) (sym q) (readable_charted s b e)

  pub holds : (policy : ℕ) → policy ≡ verdict_number k.policy → Holds b k policy
  holds policy is = record { charted = charted; ends = readable_policy s b e ∙ ap (λ (k : Contents). verdict_number k.policy) (sym q) ∙ sym is }

  module _ (need : Need) (n : need ≡ need_of b) where
    words_needed : need.words ≡ length (words_of (list_of b))
    words_needed = ap (λ (n : Need). n.words) n

    rules_needed : need.rules ≡ length (list_of b)
    rules_needed = ap (λ (n : Need). n.rules) n

    pub short : (lent : List ℕ) → length lent < need.words → Lists b lent (Err (refusal_at NoRoom need.words)) lent
    short lent lt =
        let t : leb (length (words_of (list_of b))) (length lent) ≡ _ = lt-leb (length (words_of (list_of b))) (length lent) (omega (arith, words_needed)) in
        record { answer = rw (t, words_needed); lent = rw t }

    pub can_unfold : (policy : ℕ) → policy ≡ verdict_number k.policy → (lent : ℕ) → need.words ≤ lent → Unfoldable k policy lent
    can_unfold policy is lent h = readable_unfoldable s b e (holds policy is) (omega (arith, words_needed))

    pub enough : (lent : List ℕ) → need.words ≤ length lent → (count : ℕ) (after : List ℕ) → Listed b lent count after → Lists b lent (Ok need) after
    enough lent h count after l =
        let t : leb (length (words_of (list_of b))) (length lent) ≡ _ = le-leb (length (words_of (list_of b))) (length lent) (omega (arith, words_needed)) in
        record { answer = rw (t, words_needed, rules_needed); lent = rw t l.words }

-- the entry, from the book's reading on
pub entry_refused : (s : List ℕ) (n p : ℕ) → readable s ≡ refused n p → (lent : List ℕ) →
    (refused n p ≡ unfold_entry s (length lent)) × (lent ≡ words_after (unfold_entry s (length lent)) s lent)
unfolding unfold_entry
entry_refused s n p e lent = (rw e, rw e)

pub entry_answers : (s : List ℕ) (b : Book) → readable s ≡ fine b → (lent : List ℕ) (r : Result Need Refusal) (after : List ℕ) → Lists b lent r after →
    (told_as counts r ≡ unfold_entry s (length lent)) × (after ≡ words_after (unfold_entry s (length lent)) s lent)
unfolding unfold_entry
entry_answers s b e lent r after l = (rw e l.answer, rw e (l.lent ∙ same (counts_of b (length lent))))
  where
    same : (a : Answer Counts) → left a b lent ≡ words_after a s lent
    same (fine x) = rw e
    same (refused n p) = refl
