-- How a set is built: from its lowest source up, as the writing of P below b, P any predicate. Definitions only.
use Rattle.std.specs.Prelude.{ℕ, ◌+◌, ◌≤◌, ◌<◌, Bool, true, List, [], ◌∷◌, ◌≡◌, length, Result, Ok, Err, OnErr}
use Rattle.model.specs.Limits.{greatest, spans_most}
use Rattle.model.specs.Spans.{Spans, has, complement, Rising}
use Rattle.suspects.specs.Slots.{Slots, writes, Made, RangesAs}
use Rattle.suspects.specs.declared.Full.{Full}
use Rattle.suspects.specs.declared.Suspects.{Suspects}

-- rising ranges from f on, after which a further range could start at e
abbrev pub Chain : ℕ → Spans → ℕ → Type 0
Chain f [] e = f ≤ e
Chain f (s ∷ ss) e = (f ≤ s.low) × (s.low ≤ s.high) × Chain (s.high + 2) ss e

-- the ranges are the writing of P below b
pub record Holds (ss : Spans) (P : ℕ → Bool) (b : ℕ) : Type 0 where
  pub chain : Chain 0 ss (b + 1)
  pub below : (y : ℕ) → y < b → has ss y ≡ P y

-- the slots hold that writing
pub record Held (most : ℕ) (P : ℕ → Bool) (b n : ℕ) (low high : List ℕ) : Type 0 where
  pub spans : Spans
  pub slots : Slots most spans n low high
  pub holds : Holds spans P b

-- a writing that agrees with P below b has more ranges than there are slots
abbrev pub NoRoom : ℕ → (ℕ → Bool) → ℕ → Type 0
NoRoom most P b = (m : Spans) (top : ℕ) → Rising top 0 m → ((y : ℕ) → y < b → has m y ≡ P y) → most < length m

abbrev pub HeldIn : (ℕ → Bool) → ℕ → Suspects → Type 0
HeldIn P b s = Held spans_most P b s.count s.low s.high

-- the answer of a step: the slots hold the writing of P below b, or there is no room for one
abbrev pub Grown : {A : Type 0} → (ℕ → Bool) → ℕ → Result A Full → Suspects → Type 0
Grown P b (Ok a) s = HeldIn P b s
Grown P b (Err e) s = NoRoom spans_most P b

-- the slots are those of some set
pub record Filled (s : Suspects) : Type 0 where
  pub spans : Spans
  pub slots : writes s spans

abbrev pub FilledOn : {A : Type 0} → Result A Full → Suspects → Type 0
FilledOn (Ok a) s = Filled s
FilledOn (Err e) s = Unit {0}

-- a step adds at most one range; and without room it leaves the set as it was, which fills the slots
abbrev pub Adds : {A : Type 0} → Suspects → Result A Full → Suspects → Type 0
Adds before (Ok a) after = after.count ≤ before.count + 1
Adds before (Err e) after = (spans_most ≤ before.count) × (after ≡ before)

-- from the writing below `from` of any P that has all from there to `to`, to that past `to`
pub record Pushes {A : Type 0} (from to : ℕ) (before : Suspects) (r : Result A Full) (after : Suspects) : Type 0 where
  pub adds : Adds before r after
  pub filled : FilledOn r after
  pub grown : (P : ℕ → Bool) → HeldIn P from before → ((y : ℕ) → from ≤ y → y ≤ to → P y ≡ true) → Grown P (to + 1) r after

-- the same where `to` itself is not meant, and may be `from`
pub record Fills {A : Type 0} (from to : ℕ) (before : Suspects) (r : Result A Full) (after : Suspects) : Type 0 where
  pub adds : Adds before r after
  pub filled : FilledOn r after
  pub grown : (P : ℕ → Bool) → from ≤ to → HeldIn P from before → ((y : ℕ) → from ≤ y → y < to → P y ≡ true) → Grown P to r after

-- the complement of whatever rising ranges these are, which needs at most one range more than they
pub record Gaps (low high : List ℕ) (r : Result Suspects Full) : Type 0 where
  pub few : OnErr r (spans_most ≤ length low)
  pub made : (ranges : Spans) (top : ℕ) → RangesAs low high ranges top → Made (complement greatest ranges) r
