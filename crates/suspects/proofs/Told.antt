-- What a value in its one writing tells: it writes the ranges that it says, and they rise. Assumes nothing.
use Prim.Native.Nat.{ℕ, suc, ◌+◌, ◌-◌, ◌≤◌}
use mathlib.Core.Bool.{Bool, true, false, ◌&&◌, true≢false}
use mathlib.Core.List.{List, [], ◌∷◌, ◌++◌}
use mathlib.Core.Path.{◌≡◌, refl, sym, ◌∙◌, ap, ap₂, subst}
use native.Mathlib.Omega.{arith}
use lib.Dec.{leb, eqb}
use lib.ListN.{length, take, drop, replicate, take-append-drop, length-append, length-drop, length-take}
use lib.Seq.{length-take-le, get_or-take, append_snoc, get_or_at}
use borrow.Author.Tests.{leb-true, eqb-true}
use Rattle.model.specs.Limits.{spans_most}
use Rattle.model.specs.Spans.{Spans, Rising}
use Rattle.model.specs.Slices.{State, zip, lows, highs, spans_in, rising, zeros, in_writing}
use Rattle.suspects.specs.Slots.{Slots, Listed, RangesAs}
use Rattle.suspects.proofs.Columns.{low_length}

both : (a b : Bool) → a && b ≡ true → (a ≡ true) × (b ≡ true)
both true b e = (refl, e)
both false b e = absurd (true≢false (sym e))

-- RISING, up to some address

rising_higher : (top more least : ℕ) (ss : Spans) → top ≤ more → Rising top least ss → Rising more least ss
rising_higher top more least [] h r = tt
rising_higher top more least (s ∷ ss) h r = (r.0, r.1, omega (arith, r.2), rising_higher top more (s.high + 2) ss h r.3)

pub record Rises (least : ℕ) (ss : Spans) : Type 0 where
  pub top : ℕ
  pub rises : Rising top least ss

pub rising_tells : (least : ℕ) (ss : Spans) → rising least ss ≡ true → Rises least ss
unfolding rising
rising_tells least [] e = record { top = 0; rises = tt }
rising_tells least (s ∷ ss) e =
    let a = both (leb least s.low && leb s.low s.high) (rising (s.high + 2) ss) e in
    let b = both (leb least s.low) (leb s.low s.high) a.0 in
    let i = rising_tells (s.high + 2) ss a.1 in
    record {
      top = s.high + i.top;
      rises = (leb-true least s.low b.0, leb-true s.low s.high b.1, omega arith, rising_higher i.top (s.high + i.top) (s.high + 2) ss (omega arith) i.rises);
    }

-- THE SLOTS

zeros_are : (l : List ℕ) → zeros l ≡ true → l ≡ replicate (length l) 0
unfolding zeros
zeros_are [] e = refl
zeros_are (x ∷ l) e = let a = both (eqb x 0) _ e in ap₂ ◌∷◌ (eqb-true x 0 a.0) (zeros_are l a.1)

lows_zip : (a b : List ℕ) → length a ≡ length b → lows (zip a b) ≡ a
lows_zip [] b e = refl
lows_zip (x ∷ a) [] e = absurd (omega arith)
lows_zip (x ∷ a) (y ∷ b) e = ap (λ l. x ∷ l) (lows_zip a b (omega arith))

highs_zip : (a b : List ℕ) → length a ≡ length b → highs (zip a b) ≡ b
highs_zip [] [] e = refl
highs_zip [] (y ∷ b) e = absurd (omega arith)
highs_zip (x ∷ a) [] e = absurd (omega arith)
highs_zip (x ∷ a) (y ∷ b) e = ap (λ l. y ∷ l) (highs_zip a b (omega arith))

length_lows : (ss : Spans) → length (lows ss) ≡ length ss
length_lows [] = refl
length_lows (s ∷ ss) = ap suc (length_lows ss)

-- the first n of a list, and 0 behind them
padded : (l first : List ℕ) (n most : ℕ) → first ≡ take n l → length l ≡ most → zeros (drop n l) ≡ true → l ≡ first ++ replicate (most - n) 0
padded l first n most e k z = sym (take-append-drop n l) ∙ ap₂ ◌++◌ (sym e) (zeros_are (drop n l) z ∙ ap (λ m. replicate {A = ℕ} m 0) same)
  where
    same : length (drop n l) ≡ most - n
    same = omega (arith, length-drop n l)

pub record Told (st : State) : Type 0 where
  pub rises : Rises 0 (spans_in st)
  pub slots : Slots spans_most (spans_in st) st.count st.low st.high

slots_told : (st : State) → length st.low ≡ spans_most → length st.high ≡ spans_most → st.count ≤ spans_most → zeros (drop st.count st.low) ≡ true → zeros (drop st.count st.high) ≡ true
    → Slots spans_most (spans_in st) st.count st.low st.high
unfolding spans_in
slots_told st a b h y z =
    let m = length-take-le st.count st.low (omega arith) in
    let n = length-take-le st.count st.high (omega arith) in
    let l = lows_zip (take st.count st.low) (take st.count st.high) (m ∙ sym n) in
    let k : st.count ≡ length (spans_in st) = sym m ∙ ap length (sym l) ∙ length_lows (spans_in st) in
    record {
      fits = subst (λ c. c ≤ spans_most) k h;
      count = k;
      low_is = padded st.low (lows (spans_in st)) st.count spans_most l a y ∙ ap (λ c. lows (spans_in st) ++ replicate (spans_most - c) 0) k;
      high_is = padded st.high (highs (spans_in st)) st.count spans_most (highs_zip (take st.count st.low) (take st.count st.high) (m ∙ sym n)) b z
          ∙ ap (λ c. highs (spans_in st) ++ replicate (spans_most - c) 0) k;
    }

pub told : (st : State) → length st.low ≡ spans_most → length st.high ≡ spans_most → in_writing st ≡ true → Told st
unfolding in_writing
told st a b e =
    let low = zeros (drop st.count st.low) in
    let few = leb st.count spans_most in
    let p = both (few && rising 0 (spans_in st) && low) (zeros (drop st.count st.high)) e in
    let q = both (few && rising 0 (spans_in st)) low p.0 in
    let z = both few (rising 0 (spans_in st)) q.0 in
    record { rises = rising_tells 0 (spans_in st) z.1; slots = slots_told st a b (leb-true st.count spans_most z.0) q.1 p.1 }

-- THE RANGES OF SLOTS, one after the other

listed_from : (a b : List ℕ) (at : ℕ) → length a ≡ at → length b ≡ at → (ss : Spans) (c d : List ℕ) → Listed (a ++ (lows ss ++ c)) (b ++ (highs ss ++ d)) at ss
listed_from a b at h k [] c d = tt
listed_from a b at h k (s ∷ ss) c d = (
  record {
    low_room = omega (arith, length-append a (s.low ∷ (lows ss ++ c)));
    high_room = omega (arith, length-append b (s.high ∷ (highs ss ++ d)));
    low_is = get_or_at a s.low (lows ss ++ c) 0 at h;
    high_is = get_or_at b s.high (highs ss ++ d) 0 at k;
  },
  subst (λ x. Listed x (b ++ (s.high ∷ (highs ss ++ d))) (suc at) ss) (append_snoc a s.low (lows ss ++ c)) (subst (λ y. Listed ((a ++ (s.low ∷ [])) ++ (lows ss ++ c)) y (suc at) ss) (append_snoc b s.high (highs ss ++ d))
      (listed_from (a ++ (s.low ∷ [])) (b ++ (s.high ∷ [])) (suc at) (omega (arith, length-append a (s.low ∷ []))) (omega (arith, length-append b (s.high ∷ []))) ss c d)),
)

pub slots_listed : (most : ℕ) (ss : Spans) (n : ℕ) (low high : List ℕ) → Slots most ss n low high → Listed low high 0 ss
slots_listed most ss n low high w = rw (w.low_is, w.high_is) (listed_from [] [] 0 refl refl ss (replicate (most - length ss) 0) (replicate (most - length ss) 0))

listed_take : (low high : List ℕ) (n at : ℕ) (ss : Spans) → at + length ss ≤ n → Listed low high at ss → Listed (take n low) (take n high) at ss
listed_take low high n at [] h l = tt
listed_take low high n at (s ∷ ss) h l = (
  record {
    low_room = omega (arith, length-take n low, l.0.low_room);
    high_room = omega (arith, length-take n high, l.0.high_room);
    low_is = get_or-take n low at 0 (omega arith) ∙ l.0.low_is;
    high_is = get_or-take n high at 0 (omega arith) ∙ l.0.high_is;
  },
  listed_take low high n (suc at) ss (omega arith) l.1,
)

-- the slots that are used, alone
pub slots_ranges : (most top : ℕ) (ss : Spans) (n : ℕ) (low high : List ℕ) → Slots most ss n low high → Rising top 0 ss → RangesAs (take n low) (take n high) ss top
slots_ranges most top ss n low high w r = record {
  rising = r;
  counted = let all = low_length w in omega (arith, w.count, w.fits, length-take n low);
  listed = listed_take low high n 0 ss (omega (arith, w.count)) (slots_listed most ss n low high w);
}
