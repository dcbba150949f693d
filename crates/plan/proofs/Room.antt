-- With at most m ranges for each port: what the first i ports fill.
use Prim.Native.Nat.{ℕ, ◌+◌, ◌*◌, ◌≤◌, ◌<◌}
use native.Mathlib.Omega.{arith}
use native.Mathlib.Nat.{suc-mul, mul-le-mul_right}
use native.Mathlib.Numerals.{add-one}

pub more_room : (m i to k : ℕ) → to ≤ i * m → k ≤ m → to + k ≤ (i + 1) * m
more_room m i to k h few = rw add-one (omega (arith, suc-mul i m))

pub all_room : (m n i to : ℕ) → i ≤ n → to ≤ i * m → to ≤ n * m
all_room m n i to le h = omega (arith, mul-le-mul_right m le)

pub room : (m n i to : ℕ) → i < n → to ≤ i * m → to + m ≤ n * m
room m n i to lt h = all_room m n (i + 1) (to + m) (omega arith) (more_room m i to m h (omega arith))
