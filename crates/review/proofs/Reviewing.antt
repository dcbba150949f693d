-- The whole review, from its start on: what the start leaves can be reviewed, and what the review of the list says is the entry's answer. Assumes nothing.
use Rattle.std.proofs.Common.{◌≡◌, ℕ, ◌≤◌, ◌<◌, List, [], ◌++◌, length, take, drop, refl, sym, ◌∙◌, ap, ap₂, subst, arith, length-append, Result, Ok, Err}
use Rattle.std.proofs.Math.Seq.{take-append_seam}
use mathlib.Core.Logic.{⊎_elim}
use borrow.Author.Tests.{lt-leb}
use Rattle.model.specs.Limits.{spans_most}
use Rattle.model.specs.Answer.{Answer, fine, refused, ◌>>=◌}
use Rattle.model.specs.Calls.{readable}
use Rattle.model.specs.Unfolding.{words_of}
use Rattle.model.specs.Plan.{plan_of, ranges_of}
use Rattle.model.specs.Review as model
use Rattle.model.specs.Review.{review}
use Rattle.model.specs.Slices as slices
use Rattle.model.specs.Entries as entries
use Rattle.model.specs.Entries.{Inputs, list_in, suspects_in, room, started, filled, start_entry, review_entry, words_after}
use Rattle.model.proofs.EntriesBehind.{start_behind_lem, review_answers}
use Rattle.model.proofs.SuspectsFit.{suspects_fit}
use Rattle.refusals.specs.Refusals.{number_of}
use Rattle.refusals.specs.declared.Refusal.{Refusal}
use Rattle.suspects.proofs.Chains.{lt_or_le}
use Rattle.review.specs.declared.Reviewed.{Reviewed}
use Rattle.review.specs.declared.Started.{Started}
use Rattle.review.specs.Starts.{start_told, started_of, start_on, Starts}
use Rattle.review.specs.Reviews.{Reviewable, phase_told}
use Rattle.review.proofs.Listing.{left_none}

-- a refusal on the way is the answer, whatever would come at the end
through : {A B C : Type 0} (a : Answer A) (k : A → Answer B) (l : A → Answer C) (n p : ℕ) → ((x : A) → k x ≡ refused n p → l x ≡ refused n p) → ◌>>=◌ a k ≡ refused n p → ◌>>=◌ a l ≡ refused n p
through (fine x) k l n p f e = f x e
through (refused m q) k l n p f e = let y : m ≡ n = cc in let z : q ≡ p = cc in cc

same_refusal : (book plan : List ℕ) (port lent n p : ℕ) → start_entry book plan port lent ≡ refused n p → review_entry book plan port lent ≡ refused n p
unfolding start_entry review_entry
same_refusal book plan port lent n p e =
    through (readable book) _ _ n p (λ b. through (plan_of plan) _ _ n p (λ ports. through (ranges_of port ports) _ _ n p (λ ranges. through (room lent b) _ _ n p (λ list f. absurd (cc))))) e

-- the list of a start that answers found room
module _ {book plan : List ℕ} {port : ℕ} (n : Inputs book plan port) (lent : ℕ) (s : entries.Started) (e : start_entry book plan port lent ≡ fine s) where
  start_is : start_entry book plan port lent ≡ start_on n.b n.ranges port lent
  unfolding start_entry
  start_is = rw (n.is_book, n.is_plan, n.are_ranges)

  enough : length (words_of (list_in n)) ≤ lent
  enough = ⊎_elim (λ h. let q = sym e ∙ start_is ∙ short h in absurd (cc)) (λ h. h) (lt_or_le lent (length (words_of (list_in n))))
    where
      short : lent < length (words_of (list_in n)) → start_on n.b n.ranges port lent ≡ refused 13 (length (words_of (list_in n)))
      short h = rw (lt-leb (length (words_of (list_in n))) lent h)

module _ (book plan : List ℕ) (port : ℕ) (before : List ℕ) (r : Result Started Refusal) (after : List ℕ)
    (h : Starts (start_entry book plan port (length before)) (words_after (start_entry book plan port (length before)) book before) r after) where
  abbrev entry : Answer model.Phase
  entry = review_entry book plan port (length before)

  pub whole_refused : (e : Refusal) → r ≡ Err e → (refused (number_of e.fault) e.place ≡ entry) × (after ≡ words_after entry book before)
  whole_refused e q =
      let told : start_entry book plan port (length before) ≡ refused (number_of e.fault) e.place = sym h.answer ∙ ap start_told q in
      let a = same_refusal book plan port (length before) (number_of e.fault) e.place told in
      (sym a, h.lent ∙ ap (λ a. words_after a book before) told ∙ ap (λ a. words_after a book before) (sym a))

  module _ (given : Started) (e : r ≡ Ok given) where
    started_is : start_entry book plan port (length before) ≡ fine (started_of given)
    started_is = sym h.answer ∙ ap start_told e

    abbrev behind : (n : Inputs book plan port) × (started port n.ranges (list_in n) ≡ started_of given)
    behind = start_behind_lem book plan port (length before) (started_of given) started_is

    abbrev n : Inputs book plan port
    n = behind.0

    counted : length (words_of (list_in n)) ≡ given.counts.words
    counted = ap (λ s. s.counts.words) behind.1

    words_are : after ≡ words_of (list_in n) ++ drop (length (words_of (list_in n))) before
    words_are = h.lent ∙ ap (λ a. words_after a book before) started_is ∙ ap (filled before) n.is_book

    pub words_fit : given.counts.words ≤ length after
    words_fit = omega (arith, counted, ap length words_are, length-append (words_of (list_in n)) (drop (length (words_of (list_in n))) before))

    state_is : slices.start port n.ranges ≡ (started_of given).state
    state_is = ap (λ s. s.state) behind.1

    few : length (suspects_in n) ≤ spans_most
    few = subst (λ ss. length ss ≤ spans_most) (left_none port (suspects_in n)) (suspects_fit n [] (list_in n) refl)

    pub reviewable : Reviewable book (take given.counts.words after) port given.state.suspects
    reviewable = record {
      plan = plan;
      inputs = n;
      are = ap₂ take (sym counted) words_are ∙ take-append_seam (words_of (list_in n)) (drop (length (words_of (list_in n))) before);
      suspects = record { fits = few; count = sym (ap (λ s. s.count) state_is); low_is = sym (ap (λ s. s.low) state_is); high_is = sym (ap (λ s. s.high) state_is) };
    }

    pub whole_answers : (w : Reviewed) → ((x : Reviewable book (take given.counts.words after) port given.state.suspects) → phase_told w ≡ review port (suspects_in x.inputs) (list_in x.inputs))
        → (fine (phase_told w) ≡ entry) × (after ≡ words_after entry book before)
    unfolding reviewable
    whole_answers w f =
        let is : entry ≡ fine (review port (suspects_in n) (list_in n)) = review_answers book plan port (length before) n (enough n (length before) (started_of given) started_is) in
        (ap fine (f reviewable) ∙ sym is, words_are ∙ ap (filled before) (sym n.is_book) ∙ ap (λ a. words_after a book before) (sym is))
