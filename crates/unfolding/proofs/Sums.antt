-- A sum over those numbers below n of which f holds.
use Prim.Native.Nat.{ℕ, zero, suc, ◌+◌, ◌≤◌, ◌<◌}
use native.Mathlib.Omega.{arith}
use native.Mathlib.Decide.{ℕ_discrete}
use mathlib.Core.Path.{◌≡◌, refl, ap, sym, subst, ◌∙◌}
use mathlib.Core.Bool.{Bool, true, false, false≢true}
use Rattle.model.specs.Answer.{when}

unfoldable pub sum : ℕ → (ℕ → Bool) → (ℕ → ℕ) → ℕ
sum zero f w = 0
sum (suc n) f w = when (f n) (w n) 0 + sum n f w

part_le : (x y : Bool) (v : ℕ) → (x ≡ true → y ≡ true) → when x v 0 ≤ when y v 0
part_le true true v h = omega arith
part_le true false v h = absurd (false≢true (h refl))
part_le false true v h = omega arith
part_le false false v h = omega arith

part_at : (x y : Bool) (v : ℕ) → x ≡ false → y ≡ true → v + when x v 0 ≤ when y v 0
part_at x y v e f = rw (e, f) (omega arith)

module _ (f g : ℕ → Bool) (w : ℕ → ℕ) (h : (x : ℕ) → f x ≡ true → g x ≡ true) where
  sum_le : (n : ℕ) → sum n f w ≤ sum n g w
  unfolding sum
  sum_le zero = omega arith
  sum_le (suc n) = omega (arith, part_le (f n) (g n) (w n) (h n), sum_le n)

  -- where g holds of one more
  pub sum_more : (n i : ℕ) → i < n → f i ≡ false → g i ≡ true → w i + sum n f w ≤ sum n g w
  unfolding sum
  sum_more zero i lt p q = absurd (omega arith)
  sum_more (suc n) i lt p q = elim (ℕ_discrete i n) [
    | yes e ↦ subst (λ j. w j + (when (f n) (w n) 0 + sum n f w) ≤ when (g n) (w n) 0 + sum n g w) (sym e) (omega (arith, part_at (f n) (g n) (w n) (ap f (sym e) ∙ p) (ap g (sym e) ∙ q), sum_le n))
    | no ne ↦ omega (arith, part_le (f n) (g n) (w n) (h n), sum_more n i (omega arith) p q)
  ]

pub sum_ones : (n : ℕ) → sum n (λ x. true) (λ x. 1) ≡ n
unfolding sum
sum_ones zero = refl
sum_ones (suc n) = omega (arith, sum_ones n)
