-- What is left to find out after some bytes of a number were read: the step from one byte to the next. Assumes nothing.
use Prim.Native.Nat.{ℕ, zero, suc, ◌+◌, ◌-◌, ◌*◌, ◌%◌, ◌^◌, ◌<◌, ◌≤◌}
use mathlib.Core.Path.{◌≡◌, refl, sym, ◌∙◌}
use mathlib.Core.List.{List, []}
use mathlib.Core.Bool.{Bool, true, false, ◌&&◌}
use native.Mathlib.Nat.{mul-add, mul_assoc, add_assoc, mul_comm, one-mul, zero-add, pow-le-pow_right, pow-suc, mul-le-mul, mul-le-mul_right, le-pred_of_lt}
use native.Mathlib.Numerals.{add-one, sub-one}
use native.Mathlib.Omega.{arith}
use borrow.Author.Tests.{lt-ltb, le-ltb, le-leb, lt-leb, leb-true}
use Rattle.model.proofs.Tests.{tests, cases}
use lib.ListN.{length, drop, get_or, drop_of_length-le}
use lib.Seq.{drop-cons}
use lib.Dec.{ltb, leb}
use Rattle.model.specs.Limits.{greatest}
use Rattle.model.specs.Answer.{when}
use Rattle.model.specs.Number.{Writing, whole, cut, long, behind, writing, groups, shortest, Numeral, numeral, illegible, judged, spelt, number_at}

-- the number at `at`, where the bytes up to `next` were read, are worth v, and a group from here on is worth sc times its bits
pub rest : ℕ → ℕ → ℕ → ℕ → Writing → Numeral
rest at v sc next (whole w b) = judged (v + sc * groups w b) (when (ltb at next) (ltb 0 b) (shortest w b)) (next + suc (length w))
rest at v sc next cut = illegible 2
rest at v sc next long = illegible 3

when_same : {A : Type 0} (t : Bool) (a : A) → when t a a ≡ a
when_same true a = refl
when_same false a = refl

starts : (at : ℕ) (w : Writing) → spelt at w ≡ rest at 0 1 at w
unfolding rest spelt
starts at (whole w b) = rw (zero-add, one-mul, le-ltb at at (omega arith))
starts at cut = refl
starts at long = refl

steps : (at v sc next c : ℕ) → at ≤ next → 128 ≤ c → c < 256 → (w : Writing)
    → rest at v sc next (behind c w) ≡ rest at (v + (c - 128) * sc) (sc * 128) (next + 1) w
unfolding rest behind groups shortest
steps at v sc next c le lo hi (whole w b) =
    let e₀ : c % 128 ≡ c - 128 = omega arith in
    let e₁ : v + sc * (c % 128 + 128 * groups w b) ≡ v + (c - 128) * sc + sc * 128 * groups w b =
    rw (e₀, mul_comm (c - 128) sc, mul-add, mul_assoc, add_assoc) in
    let e₂ : when (ltb at next) (ltb 0 b) (ltb 0 b) ≡ when (ltb at (next + 1)) (ltb 0 b) (shortest w b) =
    rw (lt-ltb at (next + 1) (omega arith), when_same) in
    let e₃ : next + suc (suc (length w)) ≡ next + 1 + suc (length w) = omega arith in
    cc
steps at v sc next c le lo hi cut = refl
steps at v sc next c le lo hi long = refl

one_byte : (s : List ℕ) (next left : ℕ) → 0 < left → next < length s
    → writing left (drop next s) ≡ when (ltb (get_or s next 0) 128) (whole [] (get_or s next 0)) (behind (get_or s next 0) (writing (left - 1) (drop (next + 1) s)))
unfolding writing
one_byte s next zero more h = absurd (omega arith)
one_byte s next (suc n) more h = rw (sub-one, add-one, drop-cons s next 0)

no_byte : (s : List ℕ) (next left : ℕ) → 0 < left → length s ≤ next → writing left (drop next s) ≡ cut
unfolding writing
no_byte s next zero more h = absurd (omega arith)
no_byte s next (suc n) more h = rw (drop_of_length-le s h)

module _ (s : List ℕ) (at v sc next left : ℕ) (more : 0 < left) where
  pub rest_cut : length s ≤ next → rest at v sc next (writing left (drop next s)) ≡ illegible 2
  unfolding rest
  rest_cut h = rw (no_byte s next left more h)

  -- b is the byte that was read
  pub rest_last : (b : ℕ) → b ≡ get_or s next 0 → next < length s → b < 128
      → rest at v sc next (writing left (drop next s)) ≡ judged (v + b * sc) (when (ltb at next) (ltb 0 b) true) (next + 1)
  unfolding rest groups shortest
  rest_last b e h small = rw (one_byte s next left more h, ← e, lt-ltb b 128 small, mul_comm b sc)

  pub rest_more : (b : ℕ) → b ≡ get_or s next 0 → at ≤ next → next < length s → 128 ≤ b → b < 256
      → rest at v sc next (writing left (drop next s)) ≡ rest at (v + (b - 128) * sc) (sc * 128) (next + 1) (writing (left - 1) (drop (next + 1) s))
  rest_more b e le h lo hi =
      rw (one_byte s next left more h, ← e, le-ltb b 128 lo) (steps at v sc next b le lo hi (writing (left - 1) (drop (next + 1) s)))

module _ (at v next b : ℕ) where
  pub judged_large : (short : Bool) → greatest < v → judged v short next ≡ illegible 3
  unfolding judged
  judged_large short h = rw (lt-leb v greatest h)

  pub judged_zero : b ≡ 0 → at < next → v ≤ greatest → judged v (when (ltb at next) (ltb 0 b) true) (next + 1) ≡ illegible 3
  unfolding judged
  judged_zero e lt h = rw (le-leb v greatest h, lt-ltb at next lt, e)

  pub judged_first : next ≤ at → v ≤ greatest → judged v (when (ltb at next) (ltb 0 b) true) (next + 1) ≡ numeral v (next + 1)
  unfolding judged
  judged_first le h = rw (le-leb v greatest h, le-ltb at next le)

  pub judged_some : (b ≡ 0 → ⊥) → v ≤ greatest → judged v (when (ltb at next) (ltb 0 b) true) (next + 1) ≡ numeral v (next + 1)
  unfolding judged
  judged_some ne h = rw (le-leb v greatest h, lt-ltb 0 b (omega arith), when_same)

pub rest_long : (s : List ℕ) (at v sc next left : ℕ) → left ≤ 0 → rest at v sc next (writing left (drop next s)) ≡ illegible 3
unfolding rest writing
rest_long s at v sc next zero h = refl
rest_long s at v sc next (suc n) h = absurd (omega arith)

pub rest_start : (s : List ℕ) (at : ℕ) → number_at s at ≡ rest at 0 1 at (writing 5 (drop at s))
unfolding number_at
rest_start s at = starts at (writing 5 (drop at s))

-- a group's worth is small, while a byte is left to read, and so is what is added
pub room : (k sc b : ℕ) → k ≤ 4 → sc ≡ 128 ^ k → b < 128 → (sc ≤ 268435456) × (b * sc ≤ 34091302912)
room k sc b few e small =
    let scale : sc ≤ 268435456 = rw e (pow-le-pow_right (omega arith) {j = 4} few) in
    (scale, mul-le-mul {n₂ = 127} {m₂ = 268435456} (omega arith) scale)

pub scale_next : (k sc : ℕ) → sc ≡ 128 ^ k → sc * 128 ≡ 128 ^ (k + 1)
scale_next k sc e = rw (e, add-one, pow-suc)

pub sum_small : (v b sc : ℕ) → b < 128 → v < sc → v + b * sc < sc * 128
sum_small v b sc h k = omega (arith, mul-le-mul_right {n = 127} sc (le-pred_of_lt h))

-- where a number is known to stand, there is another byte to read, and the last one is not refused
pub legible_on : (s : List ℕ) (at v sc next left w n : ℕ) → rest at v sc next (writing left (drop next s)) ≡ numeral w n → (0 < left) × (next < length s)
legible_on s at v sc next left w n e = cases (λ _. (0 < left) × (next < length s)) (ltb 0 left)
    (λ more. cases (λ _. (0 < left) × (next < length s)) (ltb next (length s))
    (λ h. (omega tests, omega tests))
    (λ h. never 2 (sym (rest_cut s at v sc next left (omega tests) (omega tests)) ∙ e)))
    (λ h. never 3 (sym (rest_long s at v sc next left (omega tests)) ∙ e))
  where
    never : {Z : Type 0} (k : ℕ) → illegible k ≡ numeral w n → Z
    never k z = let q : ◌≡◌ {A = ℕ} 0 1 = cc in absurd (omega arith)

pub legible_last : (v next w n : ℕ) (short : Bool) → judged v short next ≡ numeral w n → (v ≤ greatest) × (judged v short next ≡ numeral v next)
unfolding judged
legible_last v next w n short e = go (leb v greatest) short refl e
  where
    go : (t u : Bool) → leb v greatest ≡ t → when (t && u) (numeral v next) (illegible 3) ≡ numeral w n
        → (v ≤ greatest) × (when (t && u) (numeral v next) (illegible 3) ≡ numeral v next)
    go true true a b = (leb-true v greatest a, refl)
    go true false a b = let q : ◌≡◌ {A = ℕ} 0 1 = cc in absurd (omega arith)
    go false u a b = let q : ◌≡◌ {A = ℕ} 0 1 = cc in absurd (omega arith)
