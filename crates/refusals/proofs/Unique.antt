-- A refusal's number and place pin it down, so that an answer told in numbers is one answer of the code. Assumes nothing.
use Rattle.std.specs.Prelude.{ℕ, Result, Ok, Err, [], ◌∷◌, get_or}
use Rattle.std.proofs.Common.{◌≡◌, refl, sym, ap, ◌∙◌, arith}
use Rattle.model.specs.Answer.{Answer, fine, refused}
use Rattle.refusals.specs.declared.Refusal.{Refusal}
use Rattle.refusals.specs.declared.Fault.{Fault}
use Rattle.refusals.specs.declared.Fault.TheVariants.{BookTooLong, Cut, BadNumber, OutOfRange, BadCall, TooDeep, TooManySources, ExtraBytes, Loop, TooHeavy, BadPlan, MissingPort, NoRoom, StrayState, TooManyRanges, WrongAnswers, MissingRule, TextTooShort}
use Rattle.refusals.specs.Refusals.{number_of, refusal_at, told_as, told}

-- the fault of a number
abbrev pub fault_of : ℕ → Fault
fault_of n = get_or (TextTooShort ∷ BookTooLong ∷ Cut ∷ BadNumber ∷ OutOfRange ∷ BadCall ∷ TooDeep ∷ TooManySources ∷ ExtraBytes ∷ Loop ∷ TooHeavy ∷ BadPlan ∷ MissingPort ∷ NoRoom ∷ StrayState ∷ TooManyRanges ∷ WrongAnswers ∷ MissingRule ∷ []) n TextTooShort

pub back : (f : Fault) → fault_of (number_of f) ≡ f
back BookTooLong = refl
back Cut = refl
back BadNumber = refl
back OutOfRange = refl
back BadCall = refl
back TooDeep = refl
back TooManySources = refl
back ExtraBytes = refl
back Loop = refl
back TooHeavy = refl
back BadPlan = refl
back MissingPort = refl
back NoRoom = refl
back StrayState = refl
back TooManyRanges = refl
back WrongAnswers = refl
back MissingRule = refl
back TextTooShort = refl

pub one_fault : (f g : Fault) → number_of f ≡ number_of g → f ≡ g
one_fault f g e = sym (back f) ∙ ap fault_of e ∙ back g

-- what a refusal says
abbrev pub fault_in : {A : Type 0} → Answer A → Fault
fault_in (fine a) = TextTooShort
fault_in (refused n p) = fault_of n

abbrev pub place_in : {A : Type 0} → Answer A → ℕ
place_in (fine a) = 0
place_in (refused n p) = p

-- two refusals that are told alike are one
pub one_refusal : {A : Type 0} (r s : Refusal) → told_as {A = A} (λ a. a) (Err r) ≡ told_as (λ a. a) (Err s) → r ≡ s
one_refusal r s e =
    let faults : r.fault ≡ s.fault = sym (back r.fault) ∙ ap fault_in e ∙ back s.fault in
    let places : r.place ≡ s.place = ap place_in e in
    λ i. record { fault = faults i; place = places i }

abbrev pub value_in : {A : Type 0} → A → Answer A → A
value_in other (fine a) = a
value_in other (refused n p) = other

abbrev pub is_refused : {A : Type 0} → Answer A → ℕ
is_refused (fine a) = 0
is_refused (refused n p) = 1

-- two answers that are told alike are one, where two values that say the same are
pub one_answer : {A B : Type 0} (said : A → B) → ((a b : A) → said a ≡ said b → a ≡ b) → (r s : Result A Refusal) → told_as said r ≡ told_as said s → r ≡ s
one_answer said one (Ok a) (Ok b) e = ap Ok (one a b (ap (value_in (said a)) e))
one_answer said one (Ok a) (Err s) e = absurd (let z : ◌≡◌ {A = ℕ} 0 1 = ap is_refused e in omega arith)
one_answer said one (Err r) (Ok b) e = absurd (let z : ◌≡◌ {A = ℕ} 1 0 = ap is_refused e in omega arith)
one_answer said one (Err r) (Err s) e = ap Err (one_refusal r s e)

pub one_told : {A : Type 0} (r s : Result A Refusal) → told r ≡ told s → r ≡ s
one_told r s e = one_answer (λ a. a) (λ a b d. d) r s e
