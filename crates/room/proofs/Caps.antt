-- Sums and products up to the most: to cap the parts is to cap the whole.
use Prim.Native.Nat.{ℕ, ◌+◌, ◌*◌, ◌≤◌, min}
use native.Mathlib.Omega.{arith}
use native.Mathlib.Decide.{dec_lt}
use native.Mathlib.Nat.{mul-le-mul}
use mathlib.Core.Path.{◌≡◌}

module _ (most : ℕ) where
  times_above : (m n : ℕ) → 1 ≤ m → most ≤ n → most ≤ m * n
  times_above m n h le = omega (arith, mul-le-mul h le)

  -- with one factor capped
  pub times : (m n : ℕ) → 1 ≤ m → min (m * min n most) most ≡ min (m * n) most
  times m n h = elim (dec_lt n most) [
    | yes lt ↦ let e : min n most ≡ n = omega arith in rw e
    | no ge ↦ let e : min n most ≡ most = omega arith in rw e (omega (arith, times_above m n h (omega arith), times_above m most h (omega arith)))
  ]

  module _ (sum own rest after : ℕ) where
    -- one more, and the rest
    pub plus : (p : ℕ) → own ≡ min p most → after ≡ min (sum + own) most → min (after + rest) most ≡ min (sum + (p + rest)) most
    plus p e f = omega arith

    pub plus_times : (p q held times-own : ℕ) → own ≡ min p most → min times-own most ≡ min (held * q) most → after ≡ min (sum + own + times-own) most
        → min (after + rest) most ≡ min (sum + (p + held * q + rest)) most
    plus_times p q held times-own e t f = omega arith
