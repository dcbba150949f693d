-- The contents of a plan hold its ports: each number, where the ranges of each start, and the ranges.
use Prim.Native.Nat.{ℕ, suc, ◌+◌, ◌-◌}
use mathlib.Core.Bool.{Bool, true, false}
use mathlib.Core.List.{List, [], ◌∷◌, ◌++◌, map}
use mathlib.Core.Path.{◌≡◌, refl, ap, sym, subst}
use native.Mathlib.Omega.{arith}
use native.Mathlib.Numerals.{add-one}
use lib.Dec.{eqb}
use lib.ListN.{length, get_or}
use lib.Seq.{get_or_at, append_snoc}
use Rattle.model.specs.Answer.{fine, when}
use Rattle.model.specs.Spans.{Span, Spans}
use Rattle.model.specs.Plan.{Port, ranges_of}
use Rattle.model.specs.Filling.{padded}
use Rattle.plan.specs.declared.PlanContents.{PlanContents}
use Rattle.std.specs.Prelude.{Some}
use Rattle.plan.specs.Contents.{lows, highs, numbers, all_ranges, starts, contents_of, spans_from, ranges_at, ports_at, asked, ranges_asked}

-- xs stands in w from k on
abbrev pub Lies : List ℕ → ℕ → List ℕ → Type 0
Lies w k [] = Unit {0}
Lies w k (x ∷ xs) = (get_or w k 0 ≡ x) × Lies w (suc k) xs

lies_within : (pre xs post : List ℕ) (k : ℕ) → length pre ≡ k → Lies (pre ++ (xs ++ post)) k xs
lies_within pre [] post k e = tt
lies_within pre (x ∷ xs) post k e = (
  get_or_at pre x (xs ++ post) 0 k e,
  subst (λ (w : List ℕ). Lies w (suc k) xs) (append_snoc pre x (xs ++ post)) (lies_within (pre ++ (x ∷ [])) xs post (suc k) (omega (arith, length_snoc pre x))),
)
  where
    length_snoc : (l : List ℕ) (y : ℕ) → length (l ++ (y ∷ [])) ≡ suc (length l)
    length_snoc [] y = refl
    length_snoc (z ∷ l) y = ap suc (length_snoc l y)

lies_padded : (n : ℕ) (xs : List ℕ) → Lies (padded n xs) 0 xs
lies_padded n xs = lies_within [] xs _ 0 refl

-- one column of spans, cut in two
lies_split : (f : Span → ℕ) (w : List ℕ) (k j : ℕ) (a b : Spans) → j ≡ k + length a → Lies w k (map f (a ++ b)) → Lies w k (map f a) × Lies w j (map f b)
lies_split f w k j [] b e h = let same : j ≡ k = omega arith in (tt, rw same h)
lies_split f w k j (r ∷ a) b e h = let rest = lies_split f w (suc k) j a b (omega arith) h.1 in ((h.0, rest.0), rest.1)

-- the contents from port k on, whose ranges start at `to`
abbrev pub Held : PlanContents → ℕ → ℕ → List Port → Type 0
Held c k to [] = get_or c.first k 0 ≡ to
Held c k to (p ∷ ps) = (get_or c.first k 0 ≡ to) × (get_or c.number k 0 ≡ p.number) × (spans_from c.low c.high to (length p.ranges) ≡ p.ranges) × Held c (suc k) (to + length p.ranges) ps

spans_lie : (low high : List ℕ) (to : ℕ) (rs : Spans) → Lies low to (lows rs) → Lies high to (highs rs) → spans_from low high to (length rs) ≡ rs
spans_lie low high to [] p q = refl
spans_lie low high to (r ∷ rs) p q = let rest = spans_lie low high (suc to) rs p.1 q.1 in λ j. record { low = p.0 j; high = q.0 j } ∷ rest j

held_by : (c : PlanContents) (k to : ℕ) (ps : List Port) → Lies c.number k (numbers ps) → Lies c.first k (starts to ps) →
    Lies c.low to (lows (all_ranges ps)) → Lies c.high to (highs (all_ranges ps)) → Held c k to ps
held_by c k to [] a b l h = b.0
held_by c k to (p ∷ ps) a b l h =
    let low = lies_split (λ (r : Span). r.low) c.low to (to + length p.ranges) p.ranges (all_ranges ps) refl l in
    let high = lies_split (λ (r : Span). r.high) c.high to (to + length p.ranges) p.ranges (all_ranges ps) refl h in
    (b.0, a.0, spans_lie c.low c.high to p.ranges low.0 high.0, held_by c (suc k) (to + length p.ranges) ps a.1 b.1 low.1 high.1)

pub held : (ps : List Port) → Held (contents_of ps) 0 0 ps
unfolding contents_of
held ps = held_by (contents_of ps) 0 0 ps (lies_padded _ (numbers ps)) (lies_padded _ (starts 0 ps)) (lies_padded _ (lows (all_ranges ps))) (lies_padded _ (highs (all_ranges ps)))

-- ---- what follows from it

module _ (c : PlanContents) where
  pub held_first : (k to : ℕ) (ps : List Port) → Held c k to ps → get_or c.first k 0 ≡ to
  held_first k to [] h = h
  held_first k to (p ∷ ps) h = h.0

  pub held_next : (k to : ℕ) (p : Port) (ps : List Port) → Held c k to (p ∷ ps) → get_or c.first (k + 1) 0 ≡ to + length p.ranges
  held_next k to p ps h = rw add-one (held_first (suc k) (to + length p.ranges) ps h.3)

  pub held_ranges : (k to : ℕ) (p : Port) (ps : List Port) → Held c k to (p ∷ ps) → ranges_at c k ≡ p.ranges
  held_ranges k to p ps h =
      let len : to + length p.ranges - to ≡ length p.ranges = omega arith in
      rw (h.0, held_next k to p ps h, len) h.2

  pub held_ports : (k to : ℕ) (ps : List Port) → Held c k to ps → ports_at c k (length ps) ≡ ps
  held_ports k to [] h = refl
  held_ports k to (p ∷ ps) h =
      let rest = held_ports (suc k) (to + length p.ranges) ps h.3 in
      let here = held_ranges k to p ps h in
      λ j. record { number = h.1 j; ranges = here j } ∷ rest j

  pub held_asked : (port k to : ℕ) (ps : List Port) → Held c k to ps → ranges_of port ps ≡ ranges_asked c port (asked c.number port k (length ps))
  unfolding ranges_of asked
  held_asked port k to [] h = refl
  held_asked port k to (p ∷ ps) h = rw h.1 (go (eqb p.number port) (held_asked port (suc k) (to + length p.ranges) ps h.3))
    where
      go : (b : Bool) → ranges_of port ps ≡ ranges_asked c port (asked c.number port (suc k) (length ps)) →
          when b (fine p.ranges) (ranges_of port ps) ≡ ranges_asked c port (when b (Some k) (asked c.number port (suc k) (length ps)))
      go true rest = ap fine (sym (held_ranges k to p ps h))
      go false rest = rest
