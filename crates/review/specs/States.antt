-- The code's phase and state in the model's words. Definitions only.
use Rattle.std.specs.Prelude.{ℕ, ◌+◌, List, ◌≡◌, get_or, Result}
use Rattle.model.specs.Answer.{Answer}
use Rattle.model.specs.Entries.{state_after}
use Rattle.model.specs.Review as model
use Rattle.model.specs.Slices as slices
use Rattle.refusals.specs.Refusals.{told_as}
use Rattle.refusals.specs.declared.Refusal.{Refusal}
use Rattle.suspects.specs.Slots.{holding}
use Rattle.review.specs.declared.Phase.{Phase}
use Rattle.review.specs.declared.Phase.TheVariants.{Running, Certified, Refused}
use Rattle.review.specs.declared.State.{State}

abbrev pub phase_of : Phase → model.Phase
phase_of Running = model.running
phase_of Certified = model.certified
phase_of (Refused rule source) = model.refused rule.0 source

abbrev pub state_of : State → slices.State
state_of s = holding s.suspects s.port s.place (phase_of s.phase)

-- where the rule behind the one at a place stands
abbrev pub next : List ℕ → ℕ → ℕ
next words place = place + 3 + get_or words (place + 2) 0

-- a call answers what the model does, the state after it or a refusal; at a refusal the state is the one before
pub record SteppedBy {U : Type 0} (a : Answer slices.State) (before : State) (r : Result U Refusal) (after : State) : Type 0 where
  pub answer : told_as (λ (u : U). state_of after) r ≡ a
  pub state : state_of after ≡ state_after a (state_of before)
