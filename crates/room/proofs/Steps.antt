-- The loop over a chain's rules: what was counted, with the rules from i on, comes to the chain's need, up to the most.
use Prim.Native.Nat.{ℕ, suc, ◌+◌, ◌*◌, ◌-◌, ◌≤◌, ◌<◌}
use native.Mathlib.Omega.{arith}
use native.Mathlib.Nat.{mul-le-mul}
use mathlib.Core.Path.{◌≡◌, sym, ap, ap₂, ◌∙◌}
use mathlib.Core.List.{[], ◌∷◌}
use Rattle.model.specs.Tree.{Action}
use Rattle.model.specs.Limits.{rules_most}
use Rattle.model.specs.Tree.Action.{call}
use Rattle.book.specs.Contents.{action_at}
use Rattle.book.specs.declared.Contents.{Contents}
use Rattle.calls.specs.Actions.{actions_at}
use Rattle.room.specs.declared.Need.{Need}
use Rattle.room.specs.Counting.{put, held_after, counted}
use Rattle.room.specs.Capped.{need_most, capped, least, Small}
use Rattle.room.proofs.Caps.{times, plus, plus_times}
use Rattle.room.proofs.Actions.{put_least}

pub both : {a b c d : ℕ} → a ≡ c → b ≡ d → ◌≡◌ {A = Need} (record { rules = a; words = b }) (record { rules = c; words = d })
both p q = ap₂ (λ x y. record { rules = x; words = y }) p q

abbrev pub more : Need → Need → Need
more m n = record { rules = m.rules + n.rules; words = m.words + n.words }

-- before the first rule
pub none_counted : (n : Need) → least (more (record { rules = 0; words = 0 }) n) ≡ least n
none_counted n = both (omega arith) (omega arith)

-- the words of a chain's own conditions do not overflow
pub product_fits : (held i : ℕ) (own : Need) → held ≤ suc i → i < rules_most → Small own → held * own.rules ≤ rules_most * need_most
product_fits held i own h lt s = let le : held ≤ rules_most = omega arith in mul-le-mul le s.rules

module _ (k : Contents) where
  acts_step : (i n end : ℕ) → n ≡ i + 1 → i < end → actions_at k i (end - i) ≡ action_at k i ∷ actions_at k n (end - n)
  unfolding actions_at
  acts_step i n end next lt = let e : end - i ≡ suc (end - n) = omega arith in let f : n ≡ suc i = omega arith in rw (e, f)

  acts_none : (i end : ℕ) → end ≤ i → actions_at k i (end - i) ≡ []
  unfolding actions_at
  acts_none i end ge = let e : end - i ≡ 0 = omega arith in rw e

  module _ (f : ℕ → Need) (end : ℕ) where
    -- the need of the rules from i on
    abbrev pub left : ℕ → ℕ → Need
    left held i = counted f held (actions_at k i (end - i))

    pub none_left : (held i : ℕ) → end ≤ i → (sum : Need) → Small sum → sum ≡ least (more sum (left held i))
    unfolding counted
    none_left held i ge sum s = rw (acts_none i end ge) (both (omega (arith, s.rules)) (omega (arith, s.words)))

    module _ (i n held : ℕ) (next : n ≡ i + 1) (lt : i < end) (pos : 1 ≤ held) where
      abbrev act : Action
      act = action_at k i

      left_step : left held i ≡ record { rules = (put f act).rules + (left (held_after held act) n).rules; words = (put f act).words + held * (put f act).rules + (left (held_after held act) n).words }
      unfolding counted
      left_step = rw (acts_step i n end next lt)

      -- ONE RULE
      pub counted_rule : (g : ℕ → Need) (sum own after : Need) → own ≡ put g act → ((d : ℕ) → act ≡ call d → g d ≡ least (f d))
          → after.rules ≡ capped (sum.rules + own.rules) → after.words ≡ capped (sum.words + own.words + held * own.rules)
          → (then : ℕ) → then ≡ held_after held act → least (more after (left then n)) ≡ least (more sum (left held i))
      counted_rule g sum own after e c r w then h =
          let own_is : own ≡ least (put f act) = e ∙ put_least g f act c in
          let p = put f act in
          let rest = left (held_after held act) n in
          let r-is : own.rules ≡ capped p.rules = ap (λ (m : Need). m.rules) own_is in
          let w-is : own.words ≡ capped p.words = ap (λ (m : Need). m.words) own_is in
          let product : capped (held * own.rules) ≡ capped (held * p.rules) = ap (λ x. capped (held * x)) r-is ∙ times need_most held p.rules pos in
          ap (λ x. least (more after (left x n))) h
          ∙ both (plus need_most sum.rules own.rules rest.rules after.rules p.rules r-is r)
          (plus_times need_most sum.words own.words rest.words after.words p.words p.rules held (held * own.rules) w-is product w)
          ∙ ap (λ x. least (more sum x)) (sym left_step)
