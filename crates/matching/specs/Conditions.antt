-- The conditions of a list rule as words, and what it is to see them all. Definitions only.
use Rattle.std.specs.Prelude.{ℕ, suc, ◌<◌, ◌/◌, ◌%◌, List, [], ◌∷◌, ◌≡◌, eqb, length, get_or}
use Rattle.model.specs.Tree.{Expr, place_of}
use Rattle.model.specs.Matching.{value}
use Rattle.model.specs.Standing.{Stands}
use Rattle.model.specs.Unfolding.{Condition, condition_word}
use Rattle.model.specs.Verdict.{condition_value, conditions_value}
use Rattle.matching.specs.declared.Asking.{Asking}
use Rattle.matching.specs.declared.Held.{Held}
use Rattle.matching.specs.Sight.{sight, Sees}

-- a condition is written at a place of the words, and its expression stands in the book where the word says
pub record Noted (s words : List ℕ) (at : ℕ) (c : Condition) : Type 0 where
  pub room : at < length words
  pub word : get_or words at 0 ≡ condition_word c
  pub next : ℕ
  pub stands : Stands s (place_of c.match) c.match next

-- these conditions are written one after the other from `at` on
abbrev pub Written : List ℕ → List ℕ → ℕ → List Condition → Type 0
Written s words at [] = Unit {0}
Written s words at (c ∷ cs) = Noted s words at c × Written s words (suc at) cs

-- these conditions are the words, one for each
pub record WrittenAs (s words : List ℕ) (cs : List Condition) : Type 0 where
  pub counted : length cs ≡ length words
  pub written : Written s words 0 cs

-- so some conditions are
pub record Writing (s words : List ℕ) : Type 0 where
  pub conditions : List Condition
  pub are : WrittenAs s words conditions

abbrev pub SeesCondition : Asking → ℕ → List ℕ → List ℕ → ℕ → Held → Type 0
SeesCondition a x s answers word r = (e : Expr) (next : ℕ) → Stands s (word / 2) e next
    → Sees (λ y. condition_value (value (sight a answers y)) (record { negated = eqb (word % 2) 1; match = e })) x r

-- what is held is what whatever conditions the words are come to
abbrev pub SeesConditions : Asking → ℕ → List ℕ → List ℕ → List ℕ → Held → Type 0
SeesConditions a x s answers words r = (cs : List Condition) → WrittenAs s words cs → Sees (λ y. conditions_value (value (sight a answers y)) cs) x r
