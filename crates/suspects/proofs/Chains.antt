-- How a writing grows at its end, over any number of slots and any addresses; and that no other writing is shorter. Assumes nothing.
use Prim.Native.Nat.{ℕ, ◌+◌, ◌≤◌, ◌<◌}
use mathlib.Core.Bool.{Bool, true, false, ◌||◌, or-false, or-true, true≢false}
use mathlib.Core.List.{[], ◌∷◌, ◌++◌}
use mathlib.Core.Logic.{◌⊎◌, inl, inr, ⊎_elim}
use mathlib.Core.Path.{◌≡◌, refl, sym, ◌∙◌, ap, subst}
use native.Mathlib.Omega.{arith}
use native.Mathlib.Decide.{dec_lt}
use lib.ListN.{length}
use Rattle.model.specs.Spans.{Span, Spans, one, has, Rising}
use Rattle.model.proofs.SpanMembers.{has_append}
use Rattle.model.proofs.SpanUnique.{under, none_before, has_first, has_rest, rising_unique}
use Rattle.suspects.specs.Build.{Chain, Holds}

pub lt_or_le : (a b : ℕ) → (a < b) ⊎ (b ≤ a)
lt_or_le a b = go (dec_lt a b)
  where
    go : Dec (a < b) → (a < b) ⊎ (b ≤ a)
    go (yes h) = inl h
    go (no n) = inr (omega arith)

abbrev pub span : ℕ → ℕ → Span
span a b = record { low = a; high = b }

-- CHAINS

pub chain_le : (f : ℕ) (ss : Spans) (e : ℕ) → Chain f ss e → f ≤ e
chain_le f [] e h = h
chain_le f (s ∷ ss) e h = let z = chain_le (s.high + 2) ss e h.2 in omega arith

pub chain_rising : (f : ℕ) (ss : Spans) (e : ℕ) → Chain f ss e → Rising e f ss
chain_rising f [] e h = tt
chain_rising f (s ∷ ss) e h = let z = chain_le (s.high + 2) ss e h.2 in (h.0, h.1, omega arith, chain_rising (s.high + 2) ss e h.2)

pub chain_more : (f : ℕ) (ss : Spans) (e g : ℕ) → e ≤ g → Chain f ss e → Chain f ss g
chain_more f [] e g k h = omega arith
chain_more f (s ∷ ss) e g k h = (h.0, h.1, chain_more (s.high + 2) ss e g k h.2)

pub chain_snoc : (f : ℕ) (ss : Spans) (a b : ℕ) → Chain f ss a → a ≤ b → Chain f (ss ++ one a b) (b + 2)
chain_snoc f [] a b h k = (h, k, omega arith)
chain_snoc f (s ∷ ss) a b h k = (h.0, h.1, chain_snoc (s.high + 2) ss a b h.2 k)

pub chain_front : (f : ℕ) (ss : Spans) (a b e : ℕ) → Chain f (ss ++ one a b) e → Chain f ss a × (a ≤ b) × (b + 2 ≤ e)
chain_front f [] a b e h = (h.0, h.1, h.2)
chain_front f (s ∷ ss) a b e h = let i = chain_front (s.high + 2) ss a b e h.2 in ((h.0, h.1, i.0), i.1, i.2)

pub none_above : (f : ℕ) (ss : Spans) (e : ℕ) → Chain f ss e → (y : ℕ) → e ≤ y + 1 → has ss y ≡ false
none_above f [] e h y k = refl
none_above f (s ∷ ss) e h y k = has_rest s ss y (let z = chain_le (s.high + 2) ss e h.2 in omega arith) ∙ none_above (s.high + 2) ss e h.2 y k

pub has_before : (s : Span) (ss : Spans) (y : ℕ) → y < s.low → has (s ∷ ss) y ≡ has ss y
has_before s ss y h = rw (under s y h)

-- A WRITING GROWS

module _ (ss : Spans) (P : ℕ → Bool) where
  pub holds_none : Holds [] P 0
  holds_none = record { chain = omega arith; below = λ y k. absurd (omega arith) }

  -- past sources that P does not have
  pub skip : (b c : ℕ) → Holds ss P b → b ≤ c → ((y : ℕ) → b ≤ y → y < c → P y ≡ false) → Holds ss P c
  skip b c h k off = record {
    chain = chain_more 0 ss (b + 1) (c + 1) (omega arith) h.chain;
    below = λ y z. ⊎_elim (λ w. h.below y w) (λ w. none_above 0 ss (b + 1) h.chain y (omega arith) ∙ sym (off y w z)) (lt_or_le y b);
  }

  -- by a range of its own, or by a later end of the last
  module _ (a b : ℕ) (k : a ≤ b) (on : (y : ℕ) → a ≤ y → y ≤ b → P y ≡ true) where
    pub grow_new : Holds ss P a → Chain 0 ss a → Holds (ss ++ one a b) P (b + 1)
    grow_new h c = record {
      chain = chain_more 0 (ss ++ one a b) (b + 2) (b + 1 + 1) (omega arith) (chain_snoc 0 ss a b c k);
      below = λ y z. has_append ss (one a b) y ∙ ⊎_elim
          (λ w. ap (λ t. has ss y || t) (has_before (span a b) [] y w) ∙ or-false (has ss y) ∙ h.below y w)
          (λ w. ap (λ t. has ss y || t) (has_first (span a b) [] y w (omega arith)) ∙ or-true (has ss y) ∙ sym (on y w (omega arith)))
          (lt_or_le y a);
    }

    pub grow_last : (o e : ℕ) → e + 1 ≡ a → Holds (ss ++ one o e) P a → Holds (ss ++ one o b) P (b + 1)
    grow_last o e q h =
        let c = chain_front 0 ss o e (a + 1) h.chain in
        record {
          chain = chain_more 0 (ss ++ one o b) (b + 2) (b + 1 + 1) (omega arith) (chain_snoc 0 ss o b c.0 (omega arith));
          below = λ y z. has_append ss (one o b) y ∙ ⊎_elim
              (λ w. ap (λ t. has ss y || t) (shorter y (omega arith)) ∙ sym (has_append ss (one o e) y) ∙ h.below y w)
              (λ w. ap (λ t. has ss y || t) (has_first (span o b) [] y (omega arith) (omega arith)) ∙ or-true (has ss y) ∙ sym (on y w (omega arith)))
              (lt_or_le y a);
        }
      where
        shorter : (y : ℕ) → y ≤ e → has (one o b) y ≡ has (one o e) y
        shorter y w = ⊎_elim (λ u. has_before (span o b) [] y u ∙ sym (has_before (span o e) [] y u))
            (λ u. has_first (span o b) [] y u (omega arith) ∙ sym (has_first (span o e) [] y u w)) (lt_or_le y o)

  -- from where P has nothing more, nothing is left out
  pub holds_all : (b : ℕ) → Holds ss P b → ((y : ℕ) → b ≤ y → P y ≡ false) → (y : ℕ) → has ss y ≡ P y
  holds_all b h off y = ⊎_elim (λ w. h.below y w) (λ w. none_above 0 ss (b + 1) h.chain y (omega arith) ∙ sym (off y w)) (lt_or_le y b)

-- so a writing of the same addresses is the same list
pub holds_is : (ss m : Spans) (b top : ℕ) → Holds ss (has m) b → Rising top 0 m → ((y : ℕ) → b ≤ y → has m y ≡ false) → ss ≡ m
holds_is ss m b top h r off = rising_unique (b + 1) top 0 0 ss m (chain_rising 0 ss (b + 1) h.chain) r (holds_all ss (has m) b h off)

-- NO OTHER WRITING IS SHORTER

-- the first ranges of two writings that agree below b are equal, where the first of the two ends before b
module _ (s t : Span) (l m : Spans) (f b e top : ℕ) (hs : Chain f (s ∷ l) e) (ht : Rising top f (t ∷ m)) (k : s.high + 1 < b)
    (same : (y : ℕ) → y < b → has (s ∷ l) y ≡ has (t ∷ m) y) where
  rises : Rising e f (s ∷ l)
  rises = chain_rising f (s ∷ l) e hs

  low_le : t.low ≤ s.low
  low_le = ⊎_elim (λ h. absurd (true≢false (sym (has_first s l s.low (omega arith) hs.1) ∙ same s.low (omega (arith, hs.1)) ∙
      has_before t m s.low h ∙ none_before top (t.high + 2) m s.low ht.3 (omega (arith, ht.1))))) (λ h. h) (lt_or_le s.low t.low)

  low_ge : s.low ≤ t.low
  low_ge = ⊎_elim (λ h. absurd (true≢false (sym (has_first t m t.low (omega arith) ht.1) ∙ sym (same t.low (omega (arith, hs.1))) ∙
      has_before s l t.low h ∙ none_before e (s.high + 2) l t.low rises.3 (omega (arith, hs.1))))) (λ h. h) (lt_or_le t.low s.low)

  pub high_le : t.high ≤ s.high
  high_le = ⊎_elim (λ h. absurd (true≢false (sym (has_first t m (s.high + 1) (omega (arith, low_le, hs.1)) (omega arith)) ∙ sym (same (s.high + 1) k) ∙
      has_rest s l (s.high + 1) (omega arith) ∙ none_before e (s.high + 2) l (s.high + 1) rises.3 (omega arith)))) (λ h. h) (lt_or_le s.high t.high)

  pub high_ge : s.high ≤ t.high
  high_ge = ⊎_elim (λ h. absurd (true≢false (sym (has_first s l (t.high + 1) (omega (arith, low_ge, ht.1)) (omega arith)) ∙ same (t.high + 1) (omega arith) ∙
      has_rest t m (t.high + 1) (omega arith) ∙ none_before top (t.high + 2) m (t.high + 1) ht.3 (omega arith)))) (λ h. h) (lt_or_le t.high s.high)

  pub tail_rises : Rising top (s.high + 2) m
  tail_rises = let a = high_le in let b = high_ge in let q : t.high ≡ s.high = omega arith in subst (λ h. Rising top (h + 2) m) q ht.3

  pub tails : (y : ℕ) → y < b → has l y ≡ has m y
  tails y z = ⊎_elim
      (λ h. none_before e (s.high + 2) l y rises.3 h ∙ sym (none_before top (s.high + 2) m y tail_rises h))
      (λ h. sym (has_rest s l y (omega arith)) ∙ same y z ∙ has_rest t m y (omega (arith, high_le)))
      (lt_or_le y (s.high + 2))

-- a writing that agrees below b with one that ends before it, and has b, has more ranges
pub longer : (f : ℕ) (l m : Spans) (b top : ℕ) → Chain f l b → Rising top f m → ((y : ℕ) → y < b → has l y ≡ has m y) → has m b ≡ true → length l < length m
longer f [] [] b top h k e on = absurd (true≢false (sym on))
longer f [] (t ∷ m) b top h k e on = omega arith
longer f (s ∷ l) [] b top h k e on =
    let z = chain_le (s.high + 2) l b h.2 in
    absurd (true≢false (sym (has_first s l s.low (omega arith) h.1) ∙ e s.low (omega (arith, h.1))))
longer f (s ∷ l) (t ∷ m) b top h k e on =
    let z = chain_le (s.high + 2) l b h.2 in
    let i : length l < length m = longer (s.high + 2) l m b top h.2 (tail_rises s t l m f b b top h k (omega arith) e) (tails s t l m f b b top h k (omega arith) e)
    (sym (has_rest t m b (omega (arith, high_le s t l m f b b top h k (omega arith) e))) ∙ on) in
    omega arith
