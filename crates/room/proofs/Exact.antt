-- The entry of a book that passes is counted exactly, and with the policy it is the list's need.
use Prim.Native.Nat.{◌+◌}
use native.Mathlib.Omega.{arith}
use mathlib.Core.Path.{◌≡◌, sym, ap, ◌∙◌}
use lib.ListN.{length}
use Rattle.model.specs.Calls.{weight}
use Rattle.model.specs.Limits.{weight_most}
use Rattle.model.specs.Tree.{Book}
use Rattle.calls.specs.Checked.{Passes}
use Rattle.room.specs.declared.Need.{Need}
use Rattle.room.specs.Counting.{chain_need, need_of}
use Rattle.room.specs.Capped.{least}
use Rattle.room.proofs.Bounded.{chain_within, light_rules, light_words}
use Rattle.room.proofs.Linear.{list_rules, list_words}
use Rattle.room.proofs.Steps.{both}

module _ (b : Book) (p : Passes b) where
  abbrev entry : Need
  entry = chain_need (length b.chains) b 0

  -- the cap is never met
  exact : least entry ≡ entry
  exact =
      let w = chain_within (length b.chains) b 0 in
      both (omega (arith, light_rules entry (weight (length b.chains) b 0) weight_most w p.light)) (omega (arith, light_words entry (weight (length b.chains) b 0) weight_most w p.light))

  -- THE NEED OF THE LIST
  pub list_need : (n : Need) → n ≡ least entry → record { rules = n.rules + 1; words = n.words + 3 } ≡ need_of b
  list_need n e =
      let q : n ≡ entry = e ∙ exact in
      ap (λ (m : Need). record { rules = m.rules + 1; words = m.words + 3 }) q ∙ both (sym (list_rules b)) (sym (list_words b))
