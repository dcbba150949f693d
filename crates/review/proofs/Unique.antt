-- Each entry has one answer: two that meet its statement are equal. Assumes nothing.
use Rattle.std.proofs.Common.{◌≡◌, ℕ, List, length, refl, sym, ◌∙◌, ap, ap₂, Result, Ok, Err}
use Rattle.model.specs.Entries.{start_entry, step_entry, review_entry, words_after}
use Rattle.refusals.specs.Refusals.{told_as}
use Rattle.refusals.specs.declared.Refusal.{Refusal}
use Rattle.refusals.proofs.Unique.{one_refusal, one_answer}
use Rattle.review.specs.declared.Phase.{Phase}
use Rattle.review.specs.declared.Phase.TheVariants.{Running, Certified, Refused}
use Rattle.review.specs.declared.State.{State}
use Rattle.review.specs.declared.Started.{Started}
use Rattle.review.specs.declared.Reviewed.{Reviewed}
use Rattle.review.specs.declared.Reviewed.TheVariants as reviewed
use Rattle.review.specs.States.{phase_of, state_of, SteppedBy}
use Rattle.review.specs.Starts.{started_of, Starts}
use Rattle.review.specs.Reviews.{phase_told, review_told}

-- the code's phase and state are told apart by the model's
one_phase : (a b : Phase) → phase_of a ≡ phase_of b → a ≡ b
one_phase Running Running e = refl
one_phase Running Certified e = absurd (cc)
one_phase Running (Refused q y) e = absurd (cc)
one_phase Certified Running e = absurd (cc)
one_phase Certified Certified e = refl
one_phase Certified (Refused q y) e = absurd (cc)
one_phase (Refused r x) Running e = absurd (cc)
one_phase (Refused r x) Certified e = absurd (cc)
one_phase (Refused r x) (Refused q y) e = let n : r.0 ≡ q.0 = cc in let z : x ≡ y = cc in ap₂ (λ k s. Refused (record { 0 = k }) s) n z

pub one_state : (a b : State) → state_of a ≡ state_of b → a ≡ b
one_state a b e =
    let ph = one_phase a.phase b.phase (ap (λ s. s.phase) e) in
    let set : a.suspects ≡ b.suspects = λ i. record { count = ap (λ s. s.count) e i; low = ap (λ s. s.low) e i; high = ap (λ s. s.high) e i } in
    λ i. record { phase = ph i; place = ap (λ s. s.place) e i; port = ap (λ s. s.port) e i; suspects = set i }

-- ONE CALL, and the state that it leaves
pub one_step : (book words : List ℕ) (s : State) (r t : Result (Unit {0}) Refusal) (a b : State) → SteppedBy (step_entry book words (state_of s)) s r a → SteppedBy (step_entry book words (state_of s)) s t b → (r ≡ t) × (a ≡ b)
one_step book words s r t a b h k =
    let st = one_state a b (h.state ∙ sym k.state) in
    (go r t (h.answer ∙ sym k.answer), st)
  where
    go : (r t : Result (Unit {0}) Refusal) → told_as (λ u. state_of a) r ≡ told_as (λ u. state_of b) t → r ≡ t
    go (Ok u) (Ok v) e = refl
    go (Ok u) (Err f) e = absurd (cc)
    go (Err f) (Ok v) e = absurd (cc)
    go (Err f) (Err g) e = ap Err (one_refusal f g e)

-- THE START, and the words that it leaves
one_started : (a b : Started) → started_of a ≡ started_of b → a ≡ b
one_started a b e =
    let st = one_state a.state b.state (ap (λ s. s.state) e) in
    let need : a.counts ≡ b.counts = λ i. record { rules = ap (λ s. s.counts.rules) e i; words = ap (λ s. s.counts.words) e i } in
    λ i. record { counts = need i; state = st i }

pub one_start : (book plan : List ℕ) (port : ℕ) (before : List ℕ) → let e = start_entry book plan port (length before) in let w = words_after e book before in
    (a b : Result Started Refusal) (l m : List ℕ) → Starts e w a l → Starts e w b m → (a ≡ b) × (l ≡ m)
one_start book plan port before a b l m h k = (one_answer started_of one_started a b (h.answer ∙ sym k.answer), h.lent ∙ sym k.lent)

-- THE REVIEW
one_reviewed : (a b : Reviewed) → phase_told a ≡ phase_told b → a ≡ b
one_reviewed reviewed.Certified reviewed.Certified e = refl
one_reviewed reviewed.Certified (reviewed.Refused q y) e = absurd (cc)
one_reviewed (reviewed.Refused r x) reviewed.Certified e = absurd (cc)
one_reviewed (reviewed.Refused r x) (reviewed.Refused q y) e = let n : r.0 ≡ q.0 = cc in let z : x ≡ y = cc in ap₂ (λ k s. reviewed.Refused (record { 0 = k }) s) n z

pub one_review : (book plan : List ℕ) (port lent : ℕ) (a b : Result Reviewed Refusal) → review_told a ≡ review_entry book plan port lent → review_told b ≡ review_entry book plan port lent → a ≡ b
one_review book plan port lent a b h k = one_answer phase_told one_reviewed a b (h ∙ sym k)
