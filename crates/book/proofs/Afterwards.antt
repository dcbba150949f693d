-- What comes of readings put together, where the first is known.
use Prim.Native.Nat.{ℕ, zero, suc, ◌+◌, ◌-◌, ◌≤◌, ◌<◌}
use mathlib.Core.List.{List, [], ◌∷◌, ◌++◌, append_assoc, append-nil}
use mathlib.Core.Path.{◌≡◌, refl, sym, ap, ◌∙◌}
use native.Mathlib.Numerals.{add-one}
use native.Mathlib.Omega.{arith}
use lib.ListN.{length}
use Rattle.model.specs.Answer as answer
use Rattle.model.specs.Answer.{Answer, fine}
use Rattle.model.specs.Reader.{Stand, Read, got, refused, Reader, after, each}
use Rattle.model.specs.Number.{number, number_at}
use Rattle.model.specs.Book.{within}
use Rattle.model.proofs.Success.{Got, got_after}
use Rattle.model.proofs.Placed.{any_got}
use Rattle.numbers.specs.Told.{numbered}
use Rattle.numbers.specs.Field.{field_at}
use Rattle.numbers.specs.declared.Number.{Number}
use Rattle.numbers.proofs.Fields.{read_of, number_is, within_is}
use Rattle.book.specs.Inner.{answered}

-- a number and a field, as the code answers them
pub number_read : (s : List ℕ) (st : Stand) (a : Answer Number) → a ≡ numbered st.at (number_at s st.at) → number s st ≡ read_of st a
number_read s st a e = number_is s st ∙ ap (read_of st) (sym e)

pub field_read : (s : List ℕ) (st : Stand) (low high : ℕ) (a : Answer Number) → a ≡ numbered st.at (field_at s st.at low high) → within low high s st ≡ read_of st a
field_read s st low high a e = within_is low high s st ∙ ap (read_of st) (sym e)

-- a refusal is the model's
pub answered_refusal : {A B : Type 0} (said : A → Stand → B) (m : Read A) (n p : ℕ) → answer.refused n p ≡ answered said m → m ≡ refused n p
answered_refusal said (got a st) n p e = let z : ◌≡◌ {A = ℕ} 0 1 = cc in absurd (omega arith)
answered_refusal said (refused x y) n p e = cc

pub after_got : {A B : Type 0} (m : Read A) (k : A → Stand → Read B) (a : A) (st : Stand) → m ≡ got a st → after m k ≡ k a st
after_got m k a st e = ap (λ m. after m k) e

pub after_refused : {A B : Type 0} (m : Read A) (k : A → Stand → Read B) (n p : ℕ) → m ≡ refused n p → after m k ≡ refused n p
after_refused m k n p e = ap (λ m. after m k) e

-- what was read before, and then a reading
abbrev pub behind : {A : Type 0} → List A → Read (List A) → Read (List A)
behind new m = after m (λ l st. got (new ++ l) st)

pub behind_none : {A : Type 0} (m : Read (List A)) → m ≡ behind [] m
behind_none (got l st) = refl
behind_none (refused n p) = refl

pub behind_more : {A : Type 0} (new : List A) (a : A) (m : Read (List A)) → behind new (behind (a ∷ []) m) ≡ behind (new ++ a ∷ []) m
behind_more new a (got l st) = ap (λ l. got l st) (sym (append_assoc new (a ∷ []) l))
behind_more new a (refused n p) = refl

-- k of n were read, and the next is number i
module _ {A : Type 0} (r : ℕ → Reader A) (s : List ℕ) (n k i : ℕ) (st : Stand) where
  pub each_none : n ≤ k → (new : List A) → behind new (each (n - k) i r s st) ≡ got new st
  unfolding each
  each_none h new = let e : n - k ≡ 0 = omega arith in rw e (ap (λ l. got l st) (append-nil new))

  each_step : k < n → each (n - k) i r s st ≡ after (r i s st) (λ a st₁. behind (a ∷ []) (each (n - (k + 1)) (i + 1) r s st₁))
  unfolding each
  each_step h = let e : n - k ≡ suc (n - (k + 1)) = omega arith in rw (e, add-one i)

  pub each_refused : k < n → (x p : ℕ) → r i s st ≡ refused x p → (new : List A) → behind new (each (n - k) i r s st) ≡ refused x p
  each_refused h x p e new = ap (behind new) (each_step h ∙ after_refused (r i s st) _ x p e)

  pub each_more : k < n → (a : A) (st₁ : Stand) → r i s st ≡ got a st₁ → (new : List A)
      → behind new (each (n - k) i r s st) ≡ behind (new ++ a ∷ []) (each (n - (k + 1)) (i + 1) r s st₁)
  each_more h a st₁ e new = ap (behind new) (each_step h ∙ after_got (r i s st) _ a st₁ e) ∙ behind_more new a (each (n - (k + 1)) (i + 1) r s st₁)

-- as many as were asked for
pub each_sized : {A : Type 0} (r : ℕ → Reader A) (s : List ℕ) (n i : ℕ) (st : Stand) → Got (each n i r s st) (λ l st'. length l ≡ n)
unfolding each
each_sized r s zero i st = refl
each_sized r s (suc n) i st =
    got_after (r i s st) _ _ (any_got (r i s st)) (λ a st₁ p.
    got_after (each n (suc i) r s st₁) _ _ (each_sized r s n (suc i) st₁) (λ l st₂ q. ap suc q))
