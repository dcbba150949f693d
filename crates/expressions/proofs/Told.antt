-- Readings one after the other, as the code's answers see them. Assumes nothing.
use Prim.Native.Nat.{ℕ, zero, suc, ◌-◌}
use mathlib.Core.Path.{◌≡◌, refl, sym, ◌∙◌, ap, ap₂}
use mathlib.Core.List.{List, ◌∷◌}
use native.Mathlib.Numerals.{sub-one}
use Rattle.model.specs.Answer as answer
use Rattle.model.specs.Answer.{Answer, fine}
use Rattle.model.specs.Reader.{Stand, Read, got, refused, Reader, after, each}
use Rattle.expressions.specs.Told.{noted, stand}
use Rattle.expressions.specs.declared.ExpressionRead.{ExpressionRead}

-- what is done with a value that was read does not show
pub noted_give : {A B : Type 0} (f : A → B) (m : Read A) → noted (after m (λ a st. got (f a) st)) ≡ noted m
noted_give f (got a st) = refl
noted_give f (refused n p) = refl

-- the first refusal is the answer
pub noted_refused : {A B : Type 0} (m : Read A) (k : A → Stand → Read B) (n p : ℕ) → noted m ≡ answer.refused n p → noted (after m k) ≡ answer.refused n p
noted_refused (got a st) k n p e = cc
noted_refused (refused x y) k n p e = e

-- what follows goes on from where the first ended, whatever the value and the count of rules
pub noted_got : {A B : Type 0} (m : Read A) (k : A → Stand → Read B) (x : ExpressionRead) (r : Answer ExpressionRead) → noted m ≡ fine x
    → ((a : A) (rules : ℕ) → r ≡ noted (k a (stand x.next rules x.sources))) → r ≡ noted (after m k)
noted_got (got a st) k x r e h =
    let q : x ≡ record { next = st.at; sources = st.sources } = cc in
    h a st.rules ∙ ap₂ (λ y z. noted (k a (stand y st.rules z))) (ap (λ (w : ExpressionRead). w.next) q) (ap (λ (w : ExpressionRead). w.sources) q)
noted_got (refused n p) k x r e h = cc

-- n readings: none, or one and then the others
module _ {A : Type 0} (m : Reader A) (s : List ℕ) (st : Stand) (i : ℕ) where
  pub each_none : (n : ℕ) → n ≡ 0 → noted (each n i (λ j. m) s st) ≡ fine (record { next = st.at; sources = st.sources })
  unfolding each
  each_none n e = rw e

  pub each_refused : (n : ℕ) → (n ≡ 0 → ⊥) → (k p : ℕ) → noted (m s st) ≡ answer.refused k p → noted (each n i (λ j. m) s st) ≡ answer.refused k p
  unfolding each
  each_refused zero ne k p e = absurd (ne refl)
  each_refused (suc n) ne k p e = noted_refused (m s st) _ k p e

  pub each_got : (n : ℕ) → (n ≡ 0 → ⊥) → (x : ExpressionRead) → noted (m s st) ≡ fine x → (r : Answer ExpressionRead)
      → ((rules j : ℕ) → r ≡ noted (each (n - 1) j (λ j. m) s (stand x.next rules x.sources))) → r ≡ noted (each n i (λ j. m) s st)
  unfolding each
  each_got zero ne x e r h = absurd (ne refl)
  each_got (suc n) ne x e r h =
      noted_got (m s st) _ x r e (λ a rules. (rw sub-one at h rules (suc i)) ∙ sym (noted_give (λ l. a ∷ l) (each n (suc i) (λ j. m) s (stand x.next rules x.sources))))
