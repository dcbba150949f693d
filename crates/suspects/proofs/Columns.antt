-- The low ends, or the high ends, of a set's ranges in slots: what a store does. Over any number of slots. Assumes nothing.
use Prim.Native.Nat.{ℕ, ◌+◌, ◌-◌, ◌≤◌, ◌<◌}
use mathlib.Core.List.{List, [], ◌∷◌, ◌++◌, map, map-append}
use mathlib.Core.Path.{◌≡◌, refl, sym, ◌∙◌, ap, ap₂}
use native.Mathlib.Omega.{arith}
use lib.ListN.{length, get_or, set, replicate, length-append, length-map}
use lib.Seq.{get_or_at}
use Rattle.model.specs.Spans.{Span, Spans}
use Rattle.model.specs.Slices.{lows, highs}
use Rattle.model.specs.Filling.{padded}
use Rattle.model.proofs.Filling.{padded_at, padded_length, padded_last, padded_none, column_more}
use Rattle.suspects.specs.Slots.{Slots}

-- one end of each range, and 0 in the slots that are not used
abbrev pub column : (Span → ℕ) → ℕ → Spans → List ℕ
column f most ss = padded most (map f ss)

abbrev low_end : Span → ℕ
low_end s = s.low

abbrev high_end : Span → ℕ
high_end s = s.high

lows_map : (ss : Spans) → lows ss ≡ map low_end ss
lows_map [] = refl
lows_map (s ∷ ss) = ap (λ l. s.low ∷ l) (lows_map ss)

highs_map : (ss : Spans) → highs ss ≡ map high_end ss
highs_map [] = refl
highs_map (s ∷ ss) = ap (λ l. s.high ∷ l) (highs_map ss)

module _ (f : Span → ℕ) (most : ℕ) where
  length_column : (ss : Spans) → length ss ≤ most → length (column f most ss) ≡ most
  length_column ss h = padded_length most (map f ss) (omega (arith, length-map ss f))

  pub column_at : (ss : Spans) (s : Span) (rest : Spans) → get_or (column f most (ss ++ (s ∷ rest))) (length ss) 0 ≡ f s
  column_at ss s rest =
      padded_at most (map f (ss ++ (s ∷ rest))) (length ss) ∙ ap (λ l. get_or l (length ss) 0) (map-append f ss (s ∷ rest))
      ∙ get_or_at (map f ss) (f s) (map f rest) 0 (length ss) (length-map ss f)

  -- a range more
  pub column_new : (ss : Spans) (s : Span) → length ss < most → set (column f most ss) (length ss) (f s) ≡ column f most (ss ++ (s ∷ []))
  column_new ss s h = column_more f most ss s (length ss) (f s) refl h refl

  -- another last range
  with_last : (ss : Spans) (s : Span) → column f most (ss ++ (s ∷ [])) ≡ padded most (map f ss ++ (f s ∷ []))
  with_last ss s = ap (padded most) (map-append f ss (s ∷ []))

  pub column_last : (ss : Spans) (s t : Span) → set (column f most (ss ++ (s ∷ []))) (length ss) (f t) ≡ column f most (ss ++ (t ∷ []))
  column_last ss s t = ap₂ (λ l i. set l i (f t)) (with_last ss s) (sym (length-map ss f)) ∙ padded_last most (map f ss) (f s) (f t) ∙ sym (with_last ss t)

  pub column_same : (ss : Spans) (s t : Span) → f s ≡ f t → column f most (ss ++ (s ∷ [])) ≡ column f most (ss ++ (t ∷ []))
  column_same ss s t e = with_last ss s ∙ ap (λ v. padded most (map f ss ++ (v ∷ []))) e ∙ sym (with_last ss t)

module _ {most : ℕ} {ss : Spans} {n : ℕ} {low high : List ℕ} (w : Slots most ss n low high) where
  pub low_column : low ≡ column low_end most ss
  low_column = w.low_is ∙ ap₂ (λ l k. l ++ replicate (most - k) 0) (lows_map ss) (sym (length-map ss low_end))

  pub high_column : high ≡ column high_end most ss
  high_column = w.high_is ∙ ap₂ (λ l k. l ++ replicate (most - k) 0) (highs_map ss) (sym (length-map ss high_end))

  pub low_length : length low ≡ most
  low_length = ap length low_column ∙ length_column low_end most ss w.fits

pub slots_of : (most : ℕ) (ss : Spans) (n : ℕ) (low high : List ℕ) → length ss ≤ most → n ≡ length ss → low ≡ column low_end most ss → high ≡ column high_end most ss → Slots most ss n low high
slots_of most ss n low high h k a b = record {
  fits = h;
  count = k;
  low_is = a ∙ ap₂ (λ l k. l ++ replicate (most - k) 0) (sym (lows_map ss)) (length-map ss low_end);
  high_is = b ∙ ap₂ (λ l k. l ++ replicate (most - k) 0) (sym (highs_map ss)) (length-map ss high_end);
}

-- no ranges, in slots that are all 0
pub slots_none : (most : ℕ) → Slots most [] 0 (replicate most 0) (replicate most 0)
slots_none most = record { fits = omega arith; count = refl; low_is = padded_none most; high_is = padded_none most }

-- what a store makes of the slots
module _ (most : ℕ) (ss : Spans) (n : ℕ) (low high : List ℕ) where
  pub slots_new : (s : Span) → Slots most ss n low high → n < most → Slots most (ss ++ (s ∷ [])) (n + 1) (set low n s.low) (set high n s.high)
  slots_new s w h =
      let k = w.count in slots_of most (ss ++ (s ∷ [])) (n + 1) _ _ (omega (arith, length-append ss (s ∷ []))) (omega (arith, length-append ss (s ∷ [])))
      (ap₂ (λ l i. set l i s.low) (low_column w) k ∙ column_new low_end most ss s (omega arith))
      (ap₂ (λ l i. set l i s.high) (high_column w) k ∙ column_new high_end most ss s (omega arith))

  pub slots_last : (s : Span) (to : ℕ) → Slots most (ss ++ (s ∷ [])) n low high → Slots most (ss ++ (record { low = s.low; high = to } ∷ [])) n low (set high (n - 1) to)
  slots_last s to w =
      let t : Span = record { low = s.low; high = to } in
      let k : n - 1 ≡ length ss = omega (arith, w.count, length-append ss (s ∷ [])) in
      slots_of most (ss ++ (t ∷ [])) n _ _ (omega (arith, w.fits, length-append ss (s ∷ []), length-append ss (t ∷ []))) (omega (arith, w.count, length-append ss (s ∷ []), length-append ss (t ∷ [])))
      (low_column w ∙ column_same low_end most ss s t refl)
      (ap₂ (λ l i. set l i to) (high_column w) k ∙ column_last high_end most ss s t)

  -- the last high end
  pub last_high : (s : Span) → Slots most (ss ++ (s ∷ [])) n low high → get_or high (n - 1) 0 ≡ s.high
  last_high s w = ap₂ (λ l i. get_or l i 0) (high_column w) (omega (arith, w.count, length-append ss (s ∷ []))) ∙ column_at high_end most ss s []
