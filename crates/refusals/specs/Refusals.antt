-- Document 01's numbers of the refusals, and what an answer of the code says in the model's words. Definitions only.
use Rattle.std.specs.Prelude.{ℕ, Result, Ok, Err}
use Rattle.model.specs.Answer.{Answer, fine, refused}
use Rattle.refusals.specs.declared.Refusal.{Refusal}
use Rattle.refusals.specs.declared.Fault.{Fault}
use Rattle.refusals.specs.declared.Fault.TheVariants.{BookTooLong, Cut, BadNumber, OutOfRange, BadCall, TooDeep, TooManySources, ExtraBytes, Loop, TooHeavy, BadPlan, MissingPort, NoRoom, StrayState, TooManyRanges, WrongAnswers, MissingRule, TextTooShort}

abbrev pub number_of : Fault → ℕ
number_of BookTooLong = 1
number_of Cut = 2
number_of BadNumber = 3
number_of OutOfRange = 4
number_of BadCall = 5
number_of TooDeep = 6
number_of TooManySources = 7
number_of ExtraBytes = 8
number_of Loop = 9
number_of TooHeavy = 10
number_of BadPlan = 11
number_of MissingPort = 12
number_of NoRoom = 13
number_of StrayState = 14
number_of TooManyRanges = 15
number_of WrongAnswers = 16
number_of MissingRule = 17
-- our own, of the report
number_of TextTooShort = 19

abbrev pub refusal_at : Fault → ℕ → Refusal
refusal_at fault place = record { fault = fault; place = place }

-- an answer in document 01's numbers, where `said` is what its value says
abbrev pub told_as : {A B : Type 0} → (A → B) → Result A Refusal → Answer B
told_as said (Ok a) = fine (said a)
told_as said (Err r) = refused (number_of r.fault) r.place

-- an answer whose value speaks for itself
abbrev pub told : {A : Type 0} → Result A Refusal → Answer A
told = told_as (λ a. a)
