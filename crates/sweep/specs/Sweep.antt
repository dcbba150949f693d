-- What one rule does to the suspects, in the model's words, and what the functions that walk a range say to one another. Definitions only.
use Rattle.std.specs.Prelude.{ℕ, ◌+◌, ◌≤◌, ◌<◌, Bool, true, false, not, List, [], ◌∷◌, ◌≡◌, Option, Some, None, Result, Ok, Err}
use Rattle.model.specs.Limits.{greatest, spans_most}
use Rattle.model.specs.Ternary.{Tri, is_yes, is_no}
use Rattle.model.specs.Matching.{value, asked}
use Rattle.model.specs.Unfolding.{Condition}
use Rattle.model.specs.Verdict.{conditions_value}
use Rattle.model.specs.Spans.{Spans, minus, Rising}
use Rattle.model.specs.Review.{split_conditions}
use Rattle.matching.specs.declared.Held.{Held}
use Rattle.matching.specs.Sight.{Sees}
use Rattle.matching.specs.Conditions.{WrittenAs}
use Rattle.suspects.specs.Slots.{writes, Made}
use Rattle.suspects.specs.Build.{NoRoom, HeldIn, Grown, FilledOn}
use Rattle.suspects.specs.declared.Full.{Full}
use Rattle.suspects.specs.declared.Suspects.{Suspects}

-- the slots are those of some set in its one writing
pub record Kept (s : Suspects) : Type 0 where
  pub spans : Spans
  pub top : ℕ
  pub rising : Rising top 0 spans
  pub slots : writes s spans

-- of whatever conditions the words are
abbrev pub Each : List ℕ → List ℕ → (List Condition → Type 0) → Type 0
Each s words goal = (cs : List Condition) → WrittenAs s words cs → goal cs

-- and whatever set stands in the slots
abbrev pub Of : Suspects → (Spans → Type 0) → Type 0
Of s goal = (ss : Spans) (top : ℕ) → Rising top 0 ss → writes s ss → goal ss

-- a rule's value for a source
abbrev pub value_for : ℕ → List Condition → ℕ → Tri
value_for port cs y = conditions_value (value (asked port y)) cs

-- A RULE AS IT IS ASKED: the book, the words of the rule's conditions, and the port

pub record AskedRule : Type 0 where
  pub book : List ℕ
  pub conditions : List ℕ
  pub port : ℕ

-- whatever conditions the rule has
abbrev pub EachOf : AskedRule → (List Condition → Type 0) → Type 0
EachOf rule goal = Each rule.book rule.conditions goal

abbrev pub Asks : AskedRule → ℕ → Held → Type 0
Asks rule x r = EachOf rule (λ cs. Sees (value_for rule.port cs) x r)

-- A DROP RULE: a suspect stays where not every condition is true

abbrev pub stays : ℕ → List Condition → ℕ → Bool
stays port cs y = not (is_yes (value_for port cs y))

-- the last of a piece, which is one of the range
abbrev pub Ahead : ℕ → ℕ → Result ℕ Full → Type 0
Ahead x high (Ok last) = (x ≤ last) × (last ≤ high)
Ahead x high (Err e) = Unit {0}

abbrev pub GrownPast : (ℕ → Bool) → Result ℕ Full → ℕ → Suspects → Type 0
GrownPast P (Ok last) high s = HeldIn P (last + 1) s
GrownPast P (Err e) high s = NoRoom spans_most P (high + 1)

-- from the writing below x of any P that is this from x to high, to that past the last of the piece
pub record KeepsPiece (rule : AskedRule) (before : Suspects) (x high : ℕ) (r : Result ℕ Full) (after : Suspects) : Type 0 where
  pub ahead : Ahead x high r
  pub filled : FilledOn r after
  pub grown : EachOf rule (λ cs. (P : ℕ → Bool) → HeldIn P x before → ((y : ℕ) → x ≤ y → y ≤ high → P y ≡ stays rule.port cs y) → GrownPast P r high after)

-- the same, to that past high, which is an address
pub record KeepsRange {A : Type 0} (rule : AskedRule) (before : Suspects) (low high : ℕ) (r : Result A Full) (after : Suspects) : Type 0 where
  pub fits : high ≤ greatest
  pub filled : FilledOn r after
  pub grown : EachOf rule (λ cs. (P : ℕ → Bool) → HeldIn P low before → ((y : ℕ) → low ≤ y → y ≤ high → P y ≡ stays rule.port cs y) → Grown P (high + 1) r after)

-- the suspects that are left, as the model has them
abbrev pub Drops : List ℕ → List ℕ → ℕ → Suspects → Result Suspects Full → Type 0
Drops s words port suspects r = Each s words (λ cs. Of suspects (λ ss. Made (minus ss (split_conditions port cs).true) r))

-- AN ACCEPT RULE: a suspect may pass where no condition is false

abbrev pub passes : ℕ → List Condition → ℕ → Bool
passes port cs y = not (is_no (value_for port cs y))

abbrev pub LowestIn : (ℕ → Bool) → ℕ → ℕ → Option ℕ → Type 0
LowestIn P low high (Some x) = (low ≤ x) × (x ≤ high) × (P x ≡ true) × ((y : ℕ) → low ≤ y → y < x → P y ≡ false)
LowestIn P low high None = (y : ℕ) → low ≤ y → y ≤ high → P y ≡ false

pub record FirstIn (rule : AskedRule) (low high : ℕ) (r : Option ℕ) : Type 0 where
  pub fits : high ≤ greatest
  pub first : EachOf rule (λ cs. LowestIn (passes rule.port cs) low high r)

-- the lowest of a set in its one writing
abbrev pub lowest : Spans → Option ℕ
lowest [] = None
lowest (s ∷ ss) = Some s.low

abbrev pub Passes : List ℕ → List ℕ → ℕ → Suspects → Option ℕ → Type 0
Passes s words port suspects r = Each s words (λ cs. Of suspects (λ ss. r ≡ lowest (minus ss (split_conditions port cs).false)))
