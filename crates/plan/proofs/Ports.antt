-- One port, and then: to write the ports that are left is to write all.
use Rattle.std.specs.Prelude.{Result, Ok, Err}
use Rattle.std.proofs.Common.{◌≡◌, ◌∙◌, ℕ, zero, suc, ◌+◌, ◌≤◌, ◌<◌, List, ◌∷◌, ◌++◌, map, length, set, refl, ap, sym, subst, add-one, arith}
use mathlib.Core.List.{map-append}
use lib.ListN.{length-map}
use Rattle.model.specs.Limits.{port_highest, ranges_most}
use Rattle.model.specs.Reader.{Stand, Read, got, refused, after}
use Rattle.model.specs.Book.{within}
use Rattle.model.specs.Spans.{Span, Spans}
use Rattle.model.specs.Plan.{Port, ranges_from, ports_from}
use Rattle.model.specs.Filling.{put}
use Rattle.model.proofs.Filling.{length_put, put_none, put_put, put_more, set_put}
use Rattle.numbers.specs.declared.Number.{Number}
use Rattle.refusals.specs.declared.Refusal.{Refusal}
use Rattle.plan.specs.declared.PlanContents.{PlanContents}
use Rattle.plan.specs.declared.PortRead.{PortRead}
use Rattle.plan.specs.Contents.{slots, lows, highs, numbers, all_ranges, starts}
use Rattle.plan.specs.Written.{standing, Sized, laid, filled, one_port, FieldGot, FieldIs, RangesGot, RangesAre, PortGot, PortIs, PortsGot, PortsAre}
use Rattle.plan.proofs.Readings.{stop, on, given, on_field, field_limits}

-- ---- one port

-- what follows a port's number, and its count of ranges
abbrev counted : List ℕ → ℕ → Stand → Read Port
counted s p st = after (within 0 ranges_most s st) (λ n st₁. after (ranges_from n zero s st₁) (λ rs st₂. got (record { number = p; ranges = rs }) st₂))

module _ (s : List ℕ) (to : ℕ) (c c' : PlanContents) (least at : ℕ) where
  pub number_bad : (e : Refusal) → FieldIs least port_highest (Err e) (within least port_highest s (standing at)) → PortIs to c c' (Err e) (one_port least s (standing at))
  number_bad e h = stop (PortGot to c c') (counted s) (FieldGot least port_highest) e (within least port_highest s (standing at)) h

  module _ (number : Number) (is_number : FieldIs least port_highest (Ok number) (within least port_highest s (standing at))) where
    onward : (r : Result PortRead Refusal) → PortIs to c c' r (counted s number.value (standing number.next)) → PortIs to c c' r (one_port least s (standing at))
    onward r h = on_field (PortGot to c c') (counted s) least port_highest number r (within least port_highest s (standing at)) is_number h

    pub count_bad : (e : Refusal) → FieldIs 0 ranges_most (Err e) (within 0 ranges_most s (standing number.next)) → PortIs to c c' (Err e) (one_port least s (standing at))
    count_bad e h = onward (Err e) (stop (PortGot to c c') _ (FieldGot 0 ranges_most) e (within 0 ranges_most s (standing number.next)) h)

    module _ (count : Number) (is-count : FieldIs 0 ranges_most (Ok count) (within 0 ranges_most s (standing number.next))) where
      pub one_bad : (e : Refusal) → RangesAre count.value to c c' (Err e) (ranges_from count.value 0 s (standing count.next)) → PortIs to c c' (Err e) (one_port least s (standing at))
      one_bad e h = onward (Err e) (on_field (PortGot to c c') _ 0 ranges_most count (Err e) (within 0 ranges_most s (standing number.next)) is-count
          (stop (PortGot to c c') _ (RangesGot count.value to c c') e (ranges_from count.value 0 s (standing count.next)) h))

      pub one_got : (next : ℕ) → RangesAre count.value to c c' (Ok next) (ranges_from count.value 0 s (standing count.next))
          → PortIs to c c' (Ok (record { number = number.value; ranges = count.value; next = next })) (one_port least s (standing at))
      one_got next h =
          let known = (field_limits least port_highest number (within least port_highest s (standing at)) is_number).1 in
          let few = (field_limits 0 ranges_most count (within 0 ranges_most s (standing number.next)) is-count).1 in
          let r : Result PortRead Refusal = Ok (record { number = number.value; ranges = count.value; next = next }) in
          onward r (on_field (PortGot to c c') _ 0 ranges_most count r (within 0 ranges_most s (standing number.next)) is-count
          (on (PortGot to c c') _ (RangesGot count.value to c c') next r (ranges_from count.value 0 s (standing count.next)) h
          (λ rs st g. record { number = refl; count = g.count; stands = g.stands; known = known; few = few; writes = g.writes })))

-- ---- what is written

put_map : {A : Type 0} (f : A → ℕ) (w : List ℕ) (to : ℕ) (a b : List A) → to ≤ length w → put (put w to (map f a)) (to + length a) (map f b) ≡ put w to (map f (a ++ b))
put_map f w to a b h =
    ap (λ (k : ℕ). put (put w to (map f a)) (to + k) (map f b)) (sym (length-map a f)) ∙ put_put w to (map f a) (map f b) h ∙ ap (put w to) (sym (map-append f a b))

sized_laid : (c : PlanContents) (to : ℕ) (a : Spans) → Sized c → to + length a ≤ slots → Sized (laid c to a)
sized_laid c to a w h = record {
  number = w.number;
  first = w.first;
  low = length_put c.low to (lows a) (omega (arith, length-map a (λ (r : Span). r.low), w.low)) ∙ w.low;
  high = length_put c.high to (highs a) (omega (arith, length-map a (λ (r : Span). r.high), w.high)) ∙ w.high;
}

-- a port that is read leaves the arrays as wide as they were
pub port_leaves : (to : ℕ) (c c' : PlanContents) (r : PortRead) (m : Read Port) → PortIs to c c' (Ok r) m → Sized c → to + ranges_most ≤ slots → Sized c' × (r.ranges ≤ ranges_most) × (c'.ports ≡ c.ports)
port_leaves to c c' r (got p st) h w fits =
    (subst Sized (sym h.writes) (sized_laid c to p.ranges w (omega (arith, h.count, h.few, fits))), h.few, ap (λ (x : PlanContents). x.ports) h.writes)
port_leaves to c c' r (refused k p) h w fits = absurd h

-- ---- the ports from port i on

after_after : {A B C : Type 0} (m : Read A) (f : A → Stand → Read B) (g : B → Stand → Read C) (h : A → Stand → Read C) → ((a : A) (st : Stand) → h a st ≡ after (f a st) g) → after m h ≡ after (after m f) g
after_after (got a st) f g h q = q a st
after_after (refused n p) f g h q = refl

abbrev others : List ℕ → ℕ → Port → Stand → Read (List Port)
others s n p st = after (ports_from n (suc p.number) s st) (λ rest st'. got (p ∷ rest) st')

-- port i stored, whose ranges start at `to`
abbrev stored : PlanContents → ℕ → ℕ → ℕ → PlanContents
stored c i number to = record { ports = c.ports; number = set c.number i number; first = set c.first i to; low = c.low; high = c.high }

abbrev pub ended : PlanContents → ℕ → ℕ → PlanContents
ended c i to = record { ports = c.ports; number = c.number; first = set c.first i to; low = c.low; high = c.high }

module _ (s : List ℕ) (c : PlanContents) (i to : ℕ) (in-first : i < length c.first) where
  pub ports_none : (n least at : ℕ) → n ≡ 0 → (last : ℕ) → last ≡ i → PortsAre n i to c (ended c last to) (Ok at) (ports_from n least s (standing at))
  unfolding ports_from
  ports_none n least at z last e = rw (z, e) (record {
    stands = refl;
    count = refl;
    writes = λ j. record {
      ports = c.ports;
      number = sym (put_none c.number i) j;
      first = set_put c.first i to in-first j;
      low = sym (put_none c.low to) j;
      high = sym (put_none c.high to) j;
    };
  })

  module _ (c₁ c' : PlanContents) (n m : ℕ) (one_more : n ≡ suc m) (least at : ℕ) where
    ports_step : ports_from n least s (standing at) ≡ after (one_port least s (standing at)) (others s m)
    unfolding ports_from
    ports_step =
        rw one_more
        (after_after (within least port_highest s (standing at)) _ (others s m) _ (λ p st₁.
        after_after (within 0 ranges_most s st₁) _ (others s m) _ (λ k st₂.
        after_after (ranges_from k zero s st₂) _ (others s m) _ (λ rs st₃. refl))))

    pub ports_stop : (e : Refusal) → PortIs to c c₁ (Err e) (one_port least s (standing at)) → PortsAre n i to c c' (Err e) (ports_from n least s (standing at))
    ports_stop e h = rw ports_step (stop (PortsGot n i to c c') (others s m) (PortGot to c c₁) e (one_port least s (standing at)) h)

    pub ports_more : (p : PortRead) → PortIs to c c₁ (Ok p) (one_port least s (standing at)) → i < length c.number → Sized c → to ≤ slots →
        (r : Result ℕ Refusal) → PortsAre m (i + 1) (to + p.ranges) (stored c₁ i p.number to) c' r (ports_from m (p.number + 1) s (standing p.next)) →
        PortsAre n i to c c' r (ports_from n least s (standing at))
    ports_more p is in-number w fits r h =
        rw ports_step (on (PortsGot n i to c c') (others s m) (PortGot to c c₁) p r (one_port least s (standing at)) is (λ q st g.
        rw (g.stands, g.number)
        (given (PortsGot n i to c c') (λ rest. record { number = p.number; ranges = q.ranges } ∷ rest) (PortsGot m (i + 1) (to + p.ranges) (stored c₁ i p.number to) c') r (ports_from m (suc p.number) s (standing p.next)) (rw (add-one p.number) at h)
        (λ rest st₁ next f. record { stands = f.stands; count = ap suc f.count ∙ sym one_more; writes = f.writes ∙ filled_more q.ranges rest g.writes g.count }))))
      where
        filled_more : (rs : Spans) (ps : List Port) → c₁ ≡ laid c to rs → length rs ≡ p.ranges
            → filled (stored c₁ i p.number to) (i + 1) (to + p.ranges) ps ≡ filled c i to (record { number = p.number; ranges = rs } ∷ ps)
        filled_more rs ps wrote is-count =
            rw (wrote, ← is-count) (λ j. record {
              ports = c.ports;
              number = put_more c.number i p.number (numbers ps) in-number j;
              first = put_more c.first i to (starts (to + length rs) ps) in-first j;
              low = put_map (λ (x : Span). x.low) c.low to rs (all_ranges ps) (omega (arith, w.low)) j;
              high = put_map (λ (x : Span). x.high) c.high to rs (all_ranges ps) (omega (arith, w.high)) j;
            })
