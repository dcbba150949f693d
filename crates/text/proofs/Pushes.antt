-- The digits of a number by the last one, as a list.
use Rattle.std.proofs.Common.{◌≡◌, ℕ, zero, suc, ◌-◌, ◌/◌, ◌%◌, ◌+◌, ◌≤◌, ◌<◌, [], ◌∷◌, ◌++◌, refl, arith}
use borrow.Author.Tests.{lt-ltb, le-ltb}
use Rattle.model.specs.Report.{digits}

pub no_digits : (x : ℕ) → digits 0 x ≡ []
unfolding digits
no_digits x = refl

pub one_digit : (n x : ℕ) → 0 < n → x < 10 → digits n x ≡ (48 + x % 10) ∷ []
unfolding digits
one_digit zero x p lt = absurd (omega (arith, p))
one_digit (suc n) x p lt = let same : x % 10 ≡ x = omega (arith, lt) in rw (lt-ltb x 10 lt, same) refl

pub last_digit : (n x : ℕ) → 0 < n → 10 ≤ x → digits n x ≡ digits (n - 1) (x / 10) ++ (48 + x % 10) ∷ []
unfolding digits
last_digit zero x p ge = absurd (omega (arith, p))
last_digit (suc n) x p ge = rw (le-ltb x 10 ge, less n) refl
  where
    less : (n : ℕ) → suc n - 1 ≡ n
    less n = omega arith
