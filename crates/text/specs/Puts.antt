-- Bytes appended to a buffer. Definitions only.
use Rattle.std.specs.Prelude.{ℕ, ◌+◌, ◌≤◌, List, ◌≡◌, length}
use Rattle.model.specs.Filling.{put}

-- the bytes that a decimal number needs at most, and an address with a dot between its four parts
abbrev pub decimal_most : ℕ
decimal_most = 10

abbrev pub dotted_most : ℕ
dotted_most = 43

-- xs stands in the buffer from `at` on, the other bytes are as they were, and the next place is behind xs
pub record Puts (w : List ℕ) (at : ℕ) (xs : List ℕ) (r : ℕ) (w' : List ℕ) : Type 0 where
  pub next : r ≡ at + length xs
  pub fits : at + length xs ≤ length w
  pub written : w' ≡ put w at xs
