-- A walk over rising ranges: those that lie ahead, once all below b is done. Assumes nothing.
use Prim.Native.Nat.{ℕ, ◌+◌, ◌-◌, ◌≤◌, ◌<◌}
use mathlib.Core.Bool.{true, false}
use mathlib.Core.List.{List, [], ◌∷◌}
use mathlib.Core.Path.{◌≡◌, refl, ◌∙◌, ap, subst}
use native.Mathlib.Omega.{arith}
use native.Mathlib.Numerals.{add-one}
use lib.ListN.{length, get_or}
use Rattle.model.specs.Spans.{Span, Spans, has, Rising}
use Rattle.model.proofs.SpanCanonical.{rising_later}
use Rattle.model.proofs.SpanUnique.{none_before, has_first, has_rest}
use Rattle.suspects.specs.Slots.{Stands, Listed}
use Rattle.suspects.proofs.Chains.{has_before}

-- the ranges that stand from `at` on are the members from b on
pub record Onward (top : ℕ) (ss : Spans) (low high : List ℕ) (at left b : ℕ) : Type 0 where
  pub rest : Spans
  pub up : Rising top b rest
  pub same : (y : ℕ) → b ≤ y → has ss y ≡ has rest y
  pub counted : length rest ≡ left
  pub listed : Listed low high at rest

-- the range at hand, from `from` to `to`: no member comes before it, all of it are members, and the walk goes on behind it
pub record Hand (top : ℕ) (ss : Spans) (low high : List ℕ) (at left b from to : ℕ) : Type 0 where
  pub later : b ≤ from
  pub order : from ≤ to
  pub off : (y : ℕ) → b ≤ y → y < from → has ss y ≡ false
  pub on : (y : ℕ) → from ≤ y → y ≤ to → has ss y ≡ true
  pub next : Onward top ss low high (at + 1) (left - 1) (to + 1)

pub onward_all : (top : ℕ) (ss : Spans) (low high : List ℕ) (at left : ℕ) → Rising top 0 ss → length ss ≡ left → Listed low high at ss → Onward top ss low high at left 0
onward_all top ss low high at left r k l = record { rest = ss; up = r; same = λ y h. refl; counted = k; listed = l }

module _ (top : ℕ) (ss : Spans) (low high : List ℕ) (at left b : ℕ) (o : Onward top ss low high at left b) where
  first : {Z : Type 0} → 0 < left → ((s : Span) (more : Spans) → o.rest ≡ s ∷ more → Stands low high at s → Z) → Z
  first some f = go o.rest o.counted o.listed f
    where
      go : {Z : Type 0} (rest : Spans) → length rest ≡ left → Listed low high at rest → ((s : Span) (more : Spans) → rest ≡ s ∷ more → Stands low high at s → Z) → Z
      go [] k l f = absurd (omega arith)
      go (s ∷ more) k l f = f s more refl l.0

  pub room_low : 0 < left → at < length low
  room_low some = first some (λ s more e w. w.low_room)

  pub room_high : 0 < left → at < length high
  room_high some = first some (λ s more e w. w.high_room)

  pub hand : 0 < left → (from to : ℕ) → from ≡ get_or low at 0 → to ≡ get_or high at 0 → Hand top ss low high at left b from to
  hand some from to p q = first some (λ s more e w.
      let r = subst (λ rest. Rising top b rest) e o.up in
      let l = subst (λ rest. Listed low high at rest) e o.listed in
      let same : (y : ℕ) → b ≤ y → has ss y ≡ has (s ∷ more) y = λ y h. o.same y h ∙ ap (λ rest. has rest y) e in
      let f : from ≡ s.low = p ∙ w.low_is in
      let t : to ≡ s.high = q ∙ w.high_is in
      record {
        later = omega (arith, r.0);
        order = omega (arith, r.1);
        off = λ y h k. same y h ∙ has_before s more y (omega arith) ∙ none_before top (s.high + 2) more y r.3 (omega (arith, r.1));
        on = λ y h k. same y (omega (arith, r.0)) ∙ has_first s more y (omega arith) (omega arith);
        next = record {
          rest = more;
          up = rising_later top (s.high + 2) (to + 1) more (omega arith) r.3;
          same = λ y h. same y (omega (arith, r.0, r.1)) ∙ has_rest s more y (omega arith);
          counted = omega (arith, o.counted, ap length e);
          listed = rw add-one l.1;
        };
      })

  pub onward_none : left ≤ 0 → (y : ℕ) → b ≤ y → has ss y ≡ false
  onward_none none y h = o.same y h ∙ go o.rest o.counted
    where
      go : (rest : Spans) → length rest ≡ left → has rest y ≡ false
      go [] k = refl
      go (s ∷ more) k = absurd (omega arith)
