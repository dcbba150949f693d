-- The suspects from one horizon to the next: the conditions have one value there, so they leave or stay together. Assumes nothing.
use Rattle.std.proofs.Common.{ℕ, ◌+◌, ◌≤◌, Bool, true, not, ◌≡◌, refl, ◌∙◌, ap, min, arith}
use Rattle.model.specs.Ternary.{Tri, is_yes, is_no}
use Rattle.matching.specs.declared.Held.{Held}
use Rattle.matching.specs.declared.Truth.{Truth}
use Rattle.matching.specs.declared.Truth.TheVariants.{No, Unknown, Yes}
use Rattle.matching.specs.Sight.{tri_of, Sees}
use Rattle.suspects.specs.declared.Suspects.{Suspects}
use Rattle.suspects.specs.Build.{NoRoom, HeldIn}
use Rattle.suspects.proofs.Between.{held_skip}
use Rattle.model.specs.Limits.{spans_most}

-- by its value: whether a drop rule lets it stay, and whether an accept rule may let it pass
pub remains : (v : Truth) → (v ≡ Yes → ⊥) → not (is_yes (tri_of v)) ≡ true
remains No e = refl
remains Unknown e = refl
remains Yes e = absurd (e refl)

pub may_pass_lem : (v : Truth) → (v ≡ No → ⊥) → not (is_no (tri_of v)) ≡ true
may_pass_lem No e = absurd (e refl)
may_pass_lem Unknown e = refl
may_pass_lem Yes e = refl

module _ (g : ℕ → Tri) (x high last : ℕ) (r : Held) (sees : Sees g x r) (cut : last ≡ min r.until high) (P : ℕ → Bool)
    (same : (y : ℕ) → x ≤ y → y ≤ high → P y ≡ not (is_yes (g y))) where
  -- true: all leave
  pub piece_out : (s : Suspects) → x ≤ high → r.value ≡ Yes → HeldIn P x s → HeldIn P (last + 1) s
  piece_out s k v h = held_skip spans_most P x (last + 1) s.count s.low s.high h (omega (arith, sees.on))
      (λ y a b. same y a (omega arith) ∙ ap (λ t. not (is_yes t)) (sees.same y a (omega arith) ∙ ap tri_of v))

  -- otherwise: all stay
  pub piece_in : (r.value ≡ Yes → ⊥) → (y : ℕ) → x ≤ y → y ≤ last → P y ≡ true
  piece_in v y a b = same y a (omega arith) ∙ ap (λ t. not (is_yes t)) (sees.same y a (omega arith)) ∙ remains r.value v

-- what has no room below b has none below c
pub no_room_on : (most : ℕ) (P : ℕ → Bool) (b c : ℕ) → b ≤ c → NoRoom most P b → NoRoom most P c
no_room_on most P b c h f m top r agree = f m top r (λ y z. agree y (omega arith))
