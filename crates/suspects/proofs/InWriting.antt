-- The test of a value's slots, one slot after the other: what is left of the test at slot i is what is left at the next. Assumes nothing.
use Prim.Native.Nat.{ℕ, ◌+◌, ◌≤◌, ◌<◌, min}
use mathlib.Core.Bool.{Bool, true, false, ◌&&◌, and-false}
use mathlib.Core.List.{List, [], ◌∷◌}
use mathlib.Core.Logic.{◌⊎◌, inl, inr, ⊎_elim}
use mathlib.Core.Path.{◌≡◌, refl, sym, ◌∙◌, ap, ap₂}
use native.Mathlib.Omega.{arith}
use native.Mathlib.Numerals.{add-one}
use lib.Dec.{eqb}
use lib.ListN.{length, take, drop, get_or, drop_of_length-le}
use lib.Seq.{drop-cons}
use borrow.Author.Tests.{le-leb, lt-leb}
use Rattle.std.specs.List.{list_all}
use mir.Val.{Val}
use denote.Laws.{Is}
use denote.Struct.Declared.{row}
use Rattle.model.specs.Limits.{spans_most}
use Rattle.model.specs.Spans.{Spans}
use Rattle.model.specs.Review.{Phase}
use Rattle.model.specs.Slices.{zip, spans_in, rising, zeros, in_writing}
use Rattle.suspects.specs.declared.Suspects.{Suspects}
use Rattle.suspects.specs.Slots.{holding}
use Rattle.suspects.specs.contracts.Suspects.{the_type}
use Rattle.suspects.proofs.Chains.{lt_or_le, span}

-- a value has as many slots as its type says: what is known of a parameter (`c.good`) has it
pub low_slots : (s : Suspects) (vs : List Val) → Is (row the_type) s vs → length s.low ≡ spans_most
low_slots s vs g = g.1.1.1.0.1.0.1

pub high_slots : (s : Suspects) (vs : List Val) → Is (row the_type) s vs → length s.high ≡ spans_most
high_slots s vs g = g.1.1.1.1.0.1.0.1

drop_next : (l : List ℕ) (i : ℕ) → i < length l → drop i l ≡ get_or l i 0 ∷ drop (i + 1) l
drop_next l i h = rw add-one (drop-cons l i 0 h)

-- RISING

-- the ranges from slot i on
abbrev pub from : List ℕ → List ℕ → ℕ → Spans
from low high i = zip (drop i low) (drop i high)

zip_none : (a b : List ℕ) → (a ≡ []) ⊎ (b ≡ []) → zip a b ≡ []
zip_none [] b e = refl
zip_none (x ∷ a) [] e = refl
zip_none (x ∷ a) (y ∷ b) (inl e) = absurd (cc)
zip_none (x ∷ a) (y ∷ b) (inr e) = absurd (cc)

module _ (low high : List ℕ) (i least : ℕ) (inv : rising 0 (from low high 0) ≡ rising least (from low high i)) where
  module _ (a : i < length low) (b : i < length high) (l h : ℕ) (l_is : l ≡ get_or low i 0) (h_is : h ≡ get_or high i 0) where
    here : rising 0 (from low high 0) ≡ rising least (span l h ∷ from low high (i + 1))
    here = inv ∙ ap (rising least) (ap₂ zip (drop_next low i a) (drop_next high i b) ∙ ap₂ (λ x y. span x y ∷ from low high (i + 1)) (sym l_is) (sym h_is))

    pub not_rising_here : (l < least) ⊎ (h < l) → rising 0 (from low high 0) ≡ false
    unfolding rising
    not_rising_here (inl z) = here ∙ rw (lt-leb least l z)
    not_rising_here (inr z) = here ∙ rw (lt-leb l h z, and-false)

    pub rising_on : least ≤ l → l ≤ h → rising 0 (from low high 0) ≡ rising (h + 2) (from low high (i + 1))
    unfolding rising
    rising_on y z = here ∙ rw (le-leb least l y, le-leb l h z)

  pub rising_end : i ≡ min (length low) (length high) → rising 0 (from low high 0) ≡ true
  unfolding rising
  rising_end z = inv ∙ ap (rising least) (zip_none (drop i low) (drop i high) (⊎_elim
      (λ k. inl (drop_of_length-le low {i = i} (omega arith))) (λ k. inr (drop_of_length-le high {i = i} (omega arith))) (lt_or_le (length low) (length high))))

-- ZEROS

pub zeros_all : (l : List ℕ) → list_all (λ x. eqb x 0) l ≡ zeros l
unfolding zeros
zeros_all [] = refl
zeros_all (x ∷ l) = ap (λ b. eqb x 0 && b) (zeros_all l)

-- THE WHOLE TEST

module _ (s : Suspects) (port place : ℕ) (phase : Phase) where
  pub too_many : spans_most < s.count → false ≡ in_writing (holding s port place phase)
  unfolding in_writing
  too_many h = rw (lt-leb s.count spans_most h)

  module _ (h : s.count ≤ spans_most) where
    pub not_rising : false ≡ rising 0 (zip (take s.count s.low) (take s.count s.high)) → false ≡ in_writing (holding s port place phase)
    unfolding in_writing spans_in
    not_rising a = rw (le-leb s.count spans_most h, ← a)

    module _ (a : true ≡ rising 0 (zip (take s.count s.low) (take s.count s.high))) where
      pub not_clear : false ≡ zeros (drop s.count s.low) → false ≡ in_writing (holding s port place phase)
      unfolding in_writing spans_in
      not_clear b = rw (le-leb s.count spans_most h, ← a, ← b)

      pub last_clear : true ≡ zeros (drop s.count s.low) → (r : Bool) → r ≡ zeros (drop s.count s.high) → r ≡ in_writing (holding s port place phase)
      unfolding in_writing spans_in
      last_clear b r c = rw (le-leb s.count spans_most h, ← a, ← b) c
