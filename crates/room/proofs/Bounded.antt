-- A chain of weight w puts in at most w rules, and each has three words and at most w conditions: every condition is the match of a rule of its own.
use Prim.Native.Nat.{ℕ, zero, suc, ◌+◌, ◌*◌, ◌≤◌}
use native.Mathlib.Omega.{arith}
use native.Mathlib.Nat.{mul-le-mul_left, mul-le-mul}
use mathlib.Core.List.{List, [], ◌∷◌}
use Rattle.model.specs.Calls.{chain_of, called, weigh_called, weigh_rules, weight}
use Rattle.model.specs.Tree.{Rule, Book, Action}
use Rattle.model.specs.Tree.Action.{accept, drop, reject, log, empty, return, call}
use Rattle.room.specs.declared.Need.{Need}
use Rattle.room.specs.Counting.{put, held_after, counted, actions_of, chain_need}

-- a need that a weight allows, where each rule has so many conditions besides
pub record Within (n : Need) (held w : ℕ) : Type 0 where
  pub rules : n.rules ≤ w
  pub words : n.words ≤ w * (w + held + 2)

module _ (f : ℕ → Need) (w : ℕ → ℕ) (by : (c : ℕ) → Within (f c) 1 (w c)) where
  -- a rule before rules of the need n and weight v
  step : (a : Action) (held : ℕ) (n : Need) (v : ℕ) → Within n (held_after held a) v
      → Within (record { rules = (put f a).rules + n.rules; words = (put f a).words + held * (put f a).rules + n.words }) held (suc (weigh_called w (called a) + v))
  step accept held n v h = record { rules = omega (arith, h.rules); words = omega (arith, h.words) }
  step drop held n v h = record { rules = omega (arith, h.rules); words = omega (arith, h.words) }
  step reject held n v h = record { rules = omega (arith, h.rules); words = omega (arith, h.words) }
  step log held n v h = record { rules = omega (arith, h.rules); words = omega (arith, h.words) }
  step empty held n v h = record { rules = omega (arith, h.rules); words = omega (arith, h.words) }
  step return held n v h = record { rules = omega (arith, h.rules); words = omega (arith, h.words) }
  step (call c) held n v h =
      record { rules = omega (arith, h.rules, (by c).rules); words = omega (arith, h.words, (by c).words, mul-le-mul_left held (by c).rules) }

  within : (held : ℕ) (rs : List Rule) → Within (counted f held (actions_of rs)) held (weigh_rules w rs)
  unfolding counted weigh_rules
  within held [] = record { rules = omega arith; words = omega arith }
  within held (r ∷ rs) = step r.action held _ _ (within (held_after held r.action) rs)

pub chain_within : (n : ℕ) (b : Book) (c : ℕ) → Within (chain_need n b c) 1 (weight n b c)
unfolding chain_need weight
chain_within zero b c = record { rules = omega arith; words = omega arith }
chain_within (suc n) b c = within (chain_need n b) (weight n b) (chain_within n b) 1 (chain_of b c)

-- so a light chain needs little
pub light_rules : (n : Need) (w most : ℕ) → Within n 1 w → w ≤ most → n.rules ≤ most * (most + 3)
light_rules n w most h le = omega (arith, h.rules)

pub light_words : (n : Need) (w most : ℕ) → Within n 1 w → w ≤ most → n.words ≤ most * (most + 3)
light_words n w most h le = let m : w + 1 + 2 ≤ most + 3 = omega arith in omega (arith, h.words, mul-le-mul le m)
