-- A field: a number within its limits.
use Rattle.std.specs.Prelude.{ℕ, ◌&&◌, List, leb}
use Rattle.model.specs.Answer.{when}
use Rattle.model.specs.Number.{Numeral, numeral, illegible, number_at}

-- 4 where the number is outside
abbrev pub bounded : ℕ → ℕ → Numeral → Numeral
bounded low high (numeral v next) = when (leb low v && leb v high) (numeral v next) (illegible 4)
bounded low high (illegible n) = illegible n

unfoldable pub field_at : List ℕ → ℕ → ℕ → ℕ → Numeral
field_at s at low high = bounded low high (number_at s at)
