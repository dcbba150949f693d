-- The walk over ranges that builds their complement, over any number of slots and any last address. Assumes nothing.
use Prim.Native.Nat.{ℕ, ◌+◌, ◌-◌, ◌≤◌, ◌<◌}
use mathlib.Core.Bool.{Bool, true, false, not}
use mathlib.Core.List.{List, []}
use mathlib.Core.Path.{◌≡◌, refl, ◌∙◌, ap, subst}
use native.Mathlib.Omega.{arith}
use lib.ListN.{length, get_or}
use Rattle.model.specs.Spans.{Spans, has, complement, Rising, whole}
use Rattle.model.proofs.SpanMembers.{has_complement}
use Rattle.model.proofs.SpanCanonical.{rising_minus, canonical_whole}
use Rattle.model.proofs.SpanUnique.{none_past}
use Rattle.suspects.specs.Slots.{Slots, Listed}
use Rattle.suspects.specs.Build.{Held, NoRoom}
use Rattle.suspects.proofs.Chains.{skip, holds_none, holds_is}
use Rattle.suspects.proofs.Ahead.{Onward, Hand, onward_all, hand, onward_none}

-- the set that is built is the one writing of its target
pub made_of : (most : ℕ) (m : Spans) (b top n : ℕ) (low high : List ℕ) → Rising top 0 m → ((y : ℕ) → b ≤ y → has m y ≡ false) → Held most (has m) b n low high → Slots most m n low high
made_of most m b top n low high r off w = subst (λ ss. Slots most ss n low high) (holds_is w.spans m b top w.holds r off) w.slots

pub made_full : (most : ℕ) (m : Spans) (b top : ℕ) → Rising top 0 m → NoRoom most (has m) b → most < length m
made_full most m b top r full = full m top r (λ y z. refl)

pub held_skip : (most : ℕ) (P : ℕ → Bool) (b c n : ℕ) (low high : List ℕ) → Held most P b n low high → b ≤ c → ((y : ℕ) → b ≤ y → y < c → P y ≡ false) → Held most P c n low high
held_skip most P b c n low high h k off = record { spans = h.spans; slots = h.slots; holds = skip h.spans P b c h.holds k off }

pub held_none : (most : ℕ) (P : ℕ → Bool) (n : ℕ) (low high : List ℕ) → Slots most [] n low high → Held most P 0 n low high
held_none most P n low high w = record { spans = []; slots = w; holds = holds_none [] P }

module _ (most last : ℕ) (ranges : Spans) (top : ℕ) (low high : List ℕ) where
  -- at a range: all addresses below `next` are done, and the ranges from `at` on lie ahead
  pub record Gapped (next at left n : ℕ) (lower upper : List ℕ) : Type 0 where
    pub onward : Onward top ranges low high at left next
    pub held : Held most (has (complement last ranges)) next n lower upper

  pub gapped_all : (at left n : ℕ) (lower upper : List ℕ) → Rising top 0 ranges → length ranges ≡ left → Listed low high at ranges → Slots most [] n lower upper → Gapped 0 at left n lower upper
  gapped_all at left n lower upper r k l w = record { onward = onward_all top ranges low high at left r k l; held = held_none most (has (complement last ranges)) n lower upper w }

  -- a member of the complement is what is no member of the ranges
  other : (y : ℕ) (b : Bool) → y ≤ last → has ranges y ≡ b → has (complement last ranges) y ≡ not b
  other y b h e = has_complement last ranges y h ∙ ap not e

  module _ (rises : Rising top 0 ranges) where
    pub complement_rises : Rising last 0 (complement last ranges)
    complement_rises = rising_minus last 0 top 0 (whole last) ranges (canonical_whole last) rises

    pub beyond : (y : ℕ) → last + 1 ≤ y → has (complement last ranges) y ≡ false
    beyond y h = none_past last 0 (complement last ranges) y complement_rises (omega arith)

    module _ (next at left n : ℕ) (lower upper : List ℕ) (g : Gapped next at left n lower upper) where
      -- the addresses up to the next range are added, G is what that makes, and those of the range are passed
      module _ (some : 0 < left) (from to : ℕ) (from_is : from ≡ get_or low at 0) (to_is : to ≡ get_or high at 0) (from-fits : from ≤ last) where
        at_hand : Hand top ranges low high at left next from to
        at_hand = hand top ranges low high at left next g.onward some from to from_is to_is

        pub gap_filled : (G : (ℕ → Bool) → Type 0)
            → ((P : ℕ → Bool) → next ≤ from → Held most P next n lower upper → ((y : ℕ) → next ≤ y → y < from → P y ≡ true) → G P) → G (has (complement last ranges))
        gap_filled G fills = fills (has (complement last ranges)) at_hand.later g.held (λ y h k. other y false (omega arith) (at_hand.off y h k))

        pub gap_next : to ≤ last → (r : ℕ) (lower' upper' : List ℕ) → Held most (has (complement last ranges)) from r lower' upper' → Gapped (to + 1) (at + 1) (left - 1) r lower' upper'
        gap_next to-fits r lower' upper' held = record {
          onward = at_hand.next;
          held = held_skip most (has (complement last ranges)) from (to + 1) r lower' upper' held (omega (arith, at_hand.order))
              (λ y h k. other y true (omega arith) (at_hand.on y h (omega arith)));
        }

      -- what lies behind the last range
      pub gap_end : left ≤ 0 → next ≤ last + 1 → (G : (ℕ → Bool) → Type 0)
          → ((P : ℕ → Bool) → next ≤ last + 1 → Held most P next n lower upper → ((y : ℕ) → next ≤ y → y < last + 1 → P y ≡ true) → G P) → G (has (complement last ranges))
      gap_end none h G fills = fills (has (complement last ranges)) h g.held (λ y u v. other y false (omega arith) (onward_none top ranges low high at left next g.onward none y u))
