-- One rule of the list as it stands in words, and what it does to the suspects. Definitions only.
use Rattle.std.specs.Prelude.{ℕ, ◌+◌, ◌≤◌, ◌<◌, true, List, ◌≡◌, eqb, length, get_or, Option, Some, None, Result, Ok, Err}
use Rattle.model.specs.Limits.{spans_most}
use Rattle.model.specs.Unfolding.{ListRule}
use Rattle.model.specs.Spans.{Spans}
use Rattle.model.specs.Review.{may_pass, left_after}
use Rattle.book.specs.declared.RuleNumber.{RuleNumber}
use Rattle.matching.specs.Conditions.{Written}
use Rattle.suspects.specs.Slots.{writes}
use Rattle.suspects.specs.declared.Full.{Full}
use Rattle.suspects.specs.declared.Suspects.{Suspects}
use Rattle.sweep.specs.Sweep.{Of, lowest}

-- the rule stands in the words at a place, and the expressions of its conditions in the book
pub record RuleAt (s words : List ℕ) (at : ℕ) (r : ListRule) : Type 0 where
  pub action : r.action ≡ get_or words at 0
  pub number : r.number ≡ get_or words (at + 1) 0
  pub counted : length r.conditions ≡ get_or words (at + 2) 0
  pub room : at + 3 + get_or words (at + 2) 0 ≤ length words
  pub written : Written s words (at + 3) r.conditions

-- some rule does
pub record HasRule (s words : List ℕ) (at : ℕ) : Type 0 where
  pub rule : ListRule
  pub stands : RuleAt s words at rule

-- an accept rule refuses with the lowest suspect that it may accept; any other leaves the suspects that the model says, where they have room
abbrev pub TakenAs : ℕ → ListRule → Spans → Suspects → Result (Option (RuleNumber × ℕ)) Full → Suspects → Type 0
TakenAs port r ss before (Ok (Some found)) after = (eqb r.action 0 ≡ true) × (found.0.0 ≡ r.number) × (lowest (may_pass port r ss) ≡ Some found.1) × (after ≡ before)
TakenAs port r ss before (Ok None) after = (eqb r.action 0 ≡ true → lowest (may_pass port r ss) ≡ None) × writes after (left_after port r ss)
TakenAs port r ss before (Err e) after = (spans_most < length (left_after port r ss)) × (after ≡ before)

-- of whatever rule stands there, and whatever set in the slots
abbrev pub TakesRule : List ℕ → List ℕ → ℕ → ℕ → Suspects → Result (Option (RuleNumber × ℕ)) Full → Suspects → Type 0
TakesRule s words at port before t after = (r : ListRule) → RuleAt s words at r → Of before (λ ss. TakenAs port r ss before t after)
