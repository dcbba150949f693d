-- The whole review: what it relies on once the list is unfolded, and what it answers. Definitions only.
use Rattle.std.specs.Prelude.{ℕ, List, ◌≡◌, Result}
use Rattle.model.specs.Answer.{Answer}
use Rattle.model.specs.Entries.{Inputs, list_in, suspects_in}
use Rattle.model.specs.Review as model
use Rattle.model.specs.Unfolding.{words_of}
use Rattle.refusals.specs.Refusals.{told_as}
use Rattle.refusals.specs.declared.Refusal.{Refusal}
use Rattle.suspects.specs.Slots.{writes}
use Rattle.suspects.specs.declared.Suspects.{Suspects}
use Rattle.review.specs.declared.Reviewed.{Reviewed}
use Rattle.review.specs.declared.Reviewed.TheVariants.{Certified, Refused}

-- a book and some plan were read, these words are the book's list, and the suspects are those of the plan's port
pub record Reviewable (book words : List ℕ) (port : ℕ) (s : Suspects) : Type 0 where
  pub plan : List ℕ
  pub inputs : Inputs book plan port
  pub are : words ≡ words_of (list_in inputs)
  pub suspects : writes s (suspects_in inputs)

-- what the review comes to
abbrev pub phase_told : Reviewed → model.Phase
phase_told Certified = model.certified
phase_told (Refused rule source) = model.refused rule.0 source

-- the answer in document 01's numbers
abbrev pub review_told : Result Reviewed Refusal → Answer model.Phase
review_told = told_as phase_told
