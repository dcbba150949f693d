-- What `push` makes of the slots, one law for each way through them. Assumes nothing.
use Prim.Native.Nat.{ℕ, ◌+◌, ◌-◌, ◌≤◌, ◌<◌}
use mathlib.Core.Bool.{Bool, true}
use mathlib.Core.List.{List, [], ◌∷◌, ◌++◌}
use mathlib.Core.Logic.{◌⊎◌, inl, inr}
use mathlib.Core.Path.{◌≡◌, refl, sym, ◌∙◌, ap, subst}
use native.Mathlib.Omega.{arith}
use lib.ListN.{length, get_or, set}
use Rattle.model.specs.Limits.{spans_most}
use Rattle.model.specs.Spans.{Span, Spans, one}
use Rattle.suspects.specs.declared.Suspects.{Suspects}
use Rattle.suspects.specs.Slots.{Slots, writes}
use Rattle.suspects.specs.Build.{Chain, Holds, Held, NoRoom, Filled}
use Rattle.suspects.proofs.Chains.{span, chain_more, chain_snoc, chain_front, grow_new, grow_last, longer}
use Rattle.suspects.proofs.Columns.{slots_new, slots_last, last_high}

-- a list that is not empty, as its last and those before
record Last (ss : Spans) : Type 0 where
  pub front : Spans
  pub last : Span
  pub is : ss ≡ front ++ (last ∷ [])

last_of : (ss : Spans) → 0 < length ss → Last ss
last_of [] h = absurd (omega arith)
last_of (s ∷ []) h = record { front = []; last = s; is = refl }
last_of (s ∷ t ∷ ss) h = let l = last_of (t ∷ ss) (omega arith) in record { front = s ∷ l.front; last = l.last; is = ap (λ r. s ∷ r) l.is }

-- the slots stay those of some set, whatever is added
pub filled_last : (s : Suspects) → Filled s → 0 < s.count → (to : ℕ) → Filled (record { count = s.count; low = s.low; high = set s.high (s.count - 1) to })
filled_last s f z to =
    let l = last_of f.spans (omega (arith, f.slots.count)) in
    record { spans = l.front ++ one l.last.low to; slots = slots_last spans_most l.front s.count s.low s.high l.last to (subst (λ ss. writes s ss) l.is f.slots) }

pub filled_new : (s : Suspects) → Filled s → s.count < spans_most → (from to : ℕ) → Filled (record { count = s.count + 1; low = set s.low s.count from; high = set s.high s.count to })
filled_new s f z from to = record { spans = f.spans ++ one from to; slots = slots_new spans_most f.spans s.count s.low s.high (span from to) f.slots z }

module _ (most : ℕ) (P : ℕ → Bool) (n from to : ℕ) (low high : List ℕ) (h : Held most P from n low high) (k : from ≤ to)
    (on : (y : ℕ) → from ≤ y → y ≤ to → P y ≡ true) where
  pub push_last : 0 < n → get_or high (n - 1) 0 + 1 ≡ from → Held most P (to + 1) n low (set high (n - 1) to)
  push_last z q =
      let l = last_of h.spans (omega (arith, h.slots.count)) in
      let w = subst (λ ss. Slots most ss n low high) l.is h.slots in
      record {
        spans = l.front ++ one l.last.low to;
        slots = slots_last most l.front n low high l.last to w;
        holds = grow_last l.front P from to k on l.last.low l.last.high (ap (λ e. e + 1) (sym (last_high most l.front n low high l.last w)) ∙ q)
            (subst (λ ss. Holds ss P from) l.is h.holds);
      }

  -- the last range does not end next to `from`
  abbrev pub Far : Type 0
  Far = (n ≡ 0) ⊎ ((0 < n) × (get_or high (n - 1) 0 + 1 ≡ from → ⊥))

  apart : Far → Chain 0 h.spans from
  apart (inl z) = go h.spans (sym h.slots.count ∙ z)
    where
      go : (ss : Spans) → length ss ≡ 0 → Chain 0 ss from
      go [] e = omega arith
      go (s ∷ ss) e = absurd (omega arith)
  apart (inr f) =
      let l = last_of h.spans (omega (arith, h.slots.count, f.0)) in
      let a = l.last.low in
      let b = l.last.high in
      let w = last_high most l.front n low high l.last (subst (λ ss. Slots most ss n low high) l.is h.slots) in
      let c = chain_front 0 l.front a b (from + 1) (subst (λ ss. Chain 0 ss (from + 1)) l.is h.holds.chain) in
      subst (λ ss. Chain 0 ss from) (sym l.is)
      (chain_more 0 (l.front ++ one a b) (b + 2) from (apart_end b c.2 (λ e. f.1 (ap (λ v. v + 1) w ∙ e))) (chain_snoc 0 l.front a b c.0 c.1))
    where
      apart_end : (b : ℕ) → b + 2 ≤ from + 1 → (b + 1 ≡ from → ⊥) → b + 2 ≤ from
      apart_end b u v = omega (arith, v)

  pub push_new : Far → n < most → Held most P (to + 1) (n + 1) (set low n from) (set high n to)
  push_new f z = record {
    spans = h.spans ++ one from to;
    slots = slots_new most h.spans n low high (span from to) h.slots z;
    holds = grow_new h.spans P from to k on h.holds (apart f);
  }

  pub push_full : Far → most ≤ n → NoRoom most P (to + 1)
  push_full f z m top r same =
      let i = longer 0 h.spans m from top (apart f) r (λ y u. h.holds.below y u ∙ sym (same y (omega arith))) (same from (omega arith) ∙ on from (omega arith) k) in
      omega (arith, h.slots.count)
