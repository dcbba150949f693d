-- What is appended, and then appended to, is one text; and how long the texts are.
use Prim.Native.Nat.{ℕ, zero, suc, ◌+◌, ◌-◌, ◌≤◌, ◌<◌, ◌/◌, ◌%◌}
use native.Mathlib.Omega.{arith}
use native.Mathlib.Nat.{add-zero}
use borrow.Rule.Slice.PartMut.{put_mid}
use mathlib.Core.Bool.{Bool, true, false}
use mathlib.Core.List.{List, [], ◌∷◌, ◌++◌}
use mathlib.Core.Path.{◌≡◌, refl, ap, sym, ◌∙◌, subst}
use lib.ListN.{length, set, length-append}
use lib.Dec.{ltb}
use lib.Seq.{drop-drop}
use borrow.Author.Tests.{lt-ltb, le-ltb}
use Rattle.model.specs.Answer.{when}
use Rattle.model.specs.Report.{digits, decimal}
use Rattle.model.specs.Filling.{put}
use Rattle.model.proofs.Filling.{length_put, put_put, put_none, put_snoc}
use Rattle.text.specs.Puts.{Puts, decimal_most}

-- how long two texts are, one behind the other
pub length_both : (xs ys : List ℕ) → length (xs ++ ys) ≡ length xs + length ys
length_both xs ys = length-append xs ys

-- as many bytes as before
pub puts_length : {w : List ℕ} {at : ℕ} {xs : List ℕ} {r : ℕ} {w' : List ℕ} → Puts w at xs r w' → length w' ≡ length w
puts_length {w} {at} {xs} h = ap length h.written ∙ length_put w at xs h.fits

pub nothing : (w : List ℕ) (at : ℕ) → at ≤ length w → Puts w at [] at w
nothing w at h = record { next = sym (add-zero at); fits = omega arith; written = sym (put_none w at) }

-- one text behind another
pub then : {w : List ℕ} {at : ℕ} {xs : List ℕ} {m : ℕ} {w' : List ℕ} {ys : List ℕ} {r : ℕ} {w'' : List ℕ} →
    Puts w at xs m w' → Puts w' m ys r w'' → Puts w at (xs ++ ys) r w''
then {w} {at} {xs} {m} {w'} {ys} {r} {w''} p q =
    let l : length (xs ++ ys) ≡ length xs + length ys = length-append xs ys in
    let a : m ≡ at + length xs = p.next in
    let b : r ≡ m + length ys = q.next in
    let f : at + length xs ≤ length w = p.fits in
    let g : m + length ys ≤ length w' = q.fits in
    let e : length w' ≡ length w = puts_length p in
    record {
      next = omega (arith, l, a, b);
      fits = omega (arith, l, a, g, e);
      written = q.written ∙ ap (λ (v : List ℕ). put v m ys) p.written ∙ ap (λ (k : ℕ). put (put w at xs) k ys) a ∙ put_put w at xs ys (omega arith);
    }

-- one byte more
pub byte : {w : List ℕ} {at : ℕ} {xs : List ℕ} {m : ℕ} {w' : List ℕ} (x : ℕ) → Puts w at xs m w' → m < length w' → Puts w at (xs ++ (x ∷ [])) (m + 1) (set w' m x)
byte {w} {at} {xs} {m} {w'} x p h =
    let l : length (xs ++ (x ∷ [])) ≡ length xs + 1 = length-append xs (x ∷ []) in
    let a : m ≡ at + length xs = p.next in
    let e : length w' ≡ length w = puts_length p in
    record {
      next = omega (arith, l, a);
      fits = omega (arith, l, a, e, h);
      written = ap (λ (v : List ℕ). set v m x) p.written ∙ put_snoc w at xs m x (omega arith) a;
    }

-- how many digits there are at most
pub digits_short : (n x : ℕ) → length (digits n x) ≤ n
unfolding digits
digits_short zero x = omega arith
digits_short (suc n) x = by_test (ltb x 10) (digits_short n (x / 10))
  where
    by_test : (b : Bool) → length (digits n (x / 10)) ≤ n → length (when b ((48 + x) ∷ []) (digits n (x / 10) ++ ((48 + x % 10) ∷ []))) ≤ suc n
    by_test true h = omega arith
    by_test false h = omega (arith, length-append (digits n (x / 10)) ((48 + x % 10) ∷ []), h)

pub decimal_short : (x : ℕ) → length (decimal x) ≤ decimal_most
decimal_short x = digits_short 10 x

-- where a text and one behind it have room, the second has room after the first
pub room_left : {w : List ℕ} {at : ℕ} {xs : List ℕ} {m : ℕ} {w' : List ℕ} (k j : ℕ) → Puts w at xs m w' → length xs ≤ k → at + (k + j) ≤ length w → m + j ≤ length w'
room_left {w} {at} {xs} {m} {w'} k j p h r = omega (arith, p.next, puts_length p, h, r)

-- THE DIGITS, by the last one
pub no_digits : (w : List ℕ) (at n x : ℕ) → n ≡ 0 → at ≤ length w → Puts w at (digits n x) at w
unfolding digits
no_digits w at n x e h = rw e (nothing w at h)

pub one_digit : (w : List ℕ) (at n x : ℕ) → 0 < n → x < 10 → at < length w → Puts w at (digits n x) (at + 1) (set w at (48 + x))
unfolding digits
one_digit w at zero x p lt h = absurd (omega (arith, p))
one_digit w at (suc n) x p lt h = rw (lt-ltb x 10 lt) (byte (48 + x) (nothing w at (omega arith)) h)

pub last_digit : (w : List ℕ) (at n x m : ℕ) (w' : List ℕ) → 0 < n → 10 ≤ x → Puts w at (digits (n - 1) (x / 10)) m w' → m < length w' → Puts w at (digits n x) (m + 1) (set w' m (48 + x % 10))
unfolding digits
last_digit w at zero x m w' p ge h lt = absurd (omega (arith, p))
last_digit w at (suc n) x m w' p ge h lt = rw (le-ltb x 10 ge) (byte (48 + x % 10) (subst (λ k. Puts w at (digits k (x / 10)) m w') (suc_sub_one n) h) lt)
  where
    suc_sub_one : (n : ℕ) → suc n - 1 ≡ n
    suc_sub_one n = omega arith

-- A TEXT, copied into its place at once
part_put : (w : List ℕ) (from to : ℕ) (xs : List ℕ) → to ≡ from + length xs → put_mid from (to - from) w xs ≡ put w from xs
unfolding put
part_put w from to xs e = let k : to - from ≡ length xs = omega arith in rw (k, drop-drop (length xs) from w)

pub text_put : (w : List ℕ) (at : ℕ) (xs : List ℕ) (ys : List ℕ) → at + length xs ≤ length w → ys ≡ xs →
    Puts w at xs (at + length xs) (put_mid at (at + length xs - at) w ys)
text_put w at xs ys h same = record { next = refl; fits = h; written = ap (put_mid at (at + length xs - at) w) same ∙ part_put w at (at + length xs) xs refl }
