-- WHAT THE REVIEW'S ANSWERS MEAN, whatever answers meet the entries' statements: the model's theorems 5 to 7, said of the code. Assumes nothing.
use Prim.Native.Nat.{ℕ, zero, suc, ◌≤◌}
use mathlib.Core.List.{List}
use mathlib.Core.Path.{◌≡◌, refl, ap, sym, ◌∙◌}
use lib.ListN.{length}
use Rattle.model.specs.Answer.{Answer, fine, refused}
use Rattle.model.specs.Plan.{Port, plan_of, ranges_of, Outside}
use Rattle.model.specs.Matching as matching
use Rattle.model.specs.Spans.{Spans}
use Rattle.model.specs.Unread.{CanAccept, FirstAccept, number_at}
use Rattle.model.specs.Unfolding.{words_of}
use Rattle.model.specs.Review as model
use Rattle.model.specs.Answer as answer
use Rattle.model.specs.Slices as slices
use Rattle.model.specs.Entries.{Inputs, list_in, chain_entry, review_entry, step_entry, state_after}
use Rattle.model.specs.Progress.{whole, run, past, After, still_running, now_certified, was_refused}
use native.Mathlib.Omega.{arith}
use Rattle.review.specs.States.{state_of, SteppedBy}
use Rattle.review.specs.declared.State.{State}
use Rattle.refusals.specs.declared.Refusal.{Refusal}
use Rattle.std.specs.Prelude.{Result, Ok}
use Rattle.model.proofs.Success.{fine_same}
use Rattle.model.proofs.Headline as headline
use Rattle.review.specs.Reviews.{review_told}
use Rattle.review.specs.declared.Reviewed.{Reviewed}
use Rattle.review.specs.declared.Reviewed.TheVariants as reviewed

-- 6. A port that the review certifies drops every packet from outside its ranges, whatever the answers.
pub certified_safe : (book plan : List ℕ) (port lent : ℕ) (ports : List Port) (ranges : Spans) → plan_of plan ≡ fine ports → ranges_of port ports ≡ fine ranges →
    review_told (Ok reviewed.Certified) ≡ review_entry book plan port lent → (answers : List ℕ) (p : matching.Packet) → p.port ≡ port → Outside ranges p.source → (v : ℕ) → chain_entry book answers p ≡ fine v → v ≡ 1
certified_safe book plan port lent ports ranges f g r = headline.certified_safe book plan port lent ports ranges f g (sym r)

module _ {book plan : List ℕ} {port : ℕ} (n : Inputs book plan port) (lent : ℕ) (room : length (words_of (list_in n)) ≤ lent) where
  -- what the review answers is the whole review
  told_whole : (r : Result Reviewed Refusal) → review_told r ≡ review_entry book plan port lent → review_told r ≡ fine (whole n)
  told_whole r e = e ∙ headline.review_answers n lent room

  -- 5. It certifies only where no answers to the unread places let the list accept a source outside, and there always.
  pub certified_means : review_told (Ok reviewed.Certified) ≡ review_entry book plan port lent → (x i : ℕ) → Outside n.ranges x → ¬ CanAccept port (list_in n) i x
  certified_means e = (headline.certified_exactly n).0 (sym (fine_same (told_whole (Ok reviewed.Certified) e)))

  pub certified_where : ((x i : ℕ) → Outside n.ranges x → ¬ CanAccept port (list_in n) i x) → review_told (Ok reviewed.Certified) ≡ review_entry book plan port lent
  certified_where h = ap fine (sym ((headline.certified_exactly n).1 h)) ∙ sym (headline.review_answers n lent room)

  -- It refuses with the first list rule, and there the lowest outside source, for which some answers let the list accept.
  pub refused_means : (rule : _) (source : ℕ) → review_told (Ok (reviewed.Refused rule source)) ≡ review_entry book plan port lent →
      (i : ℕ) × (number_at (list_in n) i ≡ rule.0) × FirstAccept port (Outside n.ranges) (list_in n) i source
  refused_means rule source e = (headline.refused_exactly n rule.0 source).0 (sym (fine_same (told_whole (Ok (reviewed.Refused rule source)) e)))

-- what a run of the model's calls gives is a state
after_fine : {book plan : List ℕ} {port : ℕ} (n : Inputs book plan port) (k : ℕ) (a : Answer slices.State) → After n k a → (s : slices.State) × (a ≡ fine s)
after_fine n k _ (still_running lt e) = (past n k model.running, refl)
after_fine n k _ (now_certified e w) = (past n k model.certified, refl)
after_fine n k _ (was_refused j rule source lt e w) = (past n j (model.refused rule source), refl)

-- 7. Calls of the code one after the other, from the state that the start gives, on the same book and the words just written: after k of them the
-- state is that of the model's k calls, so that every model theorem on slices speaks of it; and no call is refused.
module _ {book plan : List ℕ} {port : ℕ} (n : Inputs book plan port) (state : ℕ → State) (said : ℕ → Result (Unit {0}) Refusal)
    (begins : state_of (state 0) ≡ slices.start port n.ranges)
    (calls : (k : ℕ) → SteppedBy (step_entry book (words_of (list_in n)) (state_of (state k))) (state k) (said k) (state (suc k))) where
  pub run_is : (k : ℕ) → k ≤ length (list_in n) → run n k ≡ fine (state_of (state k))
  unfolding slices.calls
  run_is zero h = ap fine (sym begins)
  run_is (suc k) h =
      let before = run_is k (omega arith) in
      let one : run n (suc k) ≡ step_entry book (words_of (list_in n)) (state_of (state k)) =
      ap (λ a. answer.◌>>=◌ a (slices.step n.b (words_of (list_in n)))) before ∙ sym (headline.call_answers n (words_of (list_in n)) (state_of (state k))) in
      let got = after_fine n (suc k) (run n (suc k)) (headline.slices n (suc k) h) in
      let s : state_of (state (suc k)) ≡ got.0 = (calls k).state ∙ ap (λ a. state_after a (state_of (state k))) (sym one ∙ got.1) in
      got.1 ∙ ap fine (sym s)
