-- A field that the code has read, or refused, is one that the model's reader reads, or refuses. Assumes nothing.
use Prim.Native.Nat.{ℕ, zero-le}
use mathlib.Core.Path.{◌≡◌, refl, sym, ap, ◌∙◌}
use mathlib.Core.Bool.{Bool, true, false, ◌&&◌}
use mathlib.Core.List.{List}
use lib.Dec.{leb}
use borrow.Author.Tests.{le-leb}
use native.Mathlib.Omega.{arith}
use Rattle.model.specs.Limits.{greatest}
use Rattle.model.specs.Answer as answer
use Rattle.model.specs.Answer.{Answer, fine, when}
use Rattle.model.specs.Reader.{Stand, after}
use Rattle.model.specs.Number.{Numeral, numeral, illegible, number_at, number}
use Rattle.model.specs.Book.{within}
use Rattle.model.proofs.NumberPast.{number_past}
use Rattle.numbers.specs.Field.{bounded, field_at}
use Rattle.numbers.specs.Told.{numbered}
use Rattle.numbers.specs.declared.Number.{Number}
use Rattle.numbers.proofs.Fields.{read_of, number_is, within_is}
use Rattle.expressions.specs.Told.{noted, stand, twice}
use Rattle.expressions.specs.declared.ExpressionRead.{ExpressionRead}

-- any number is a field with the widest limits
pub number_any : (s : List ℕ) (at : ℕ) → number_at s at ≡ field_at s at 0 greatest
unfolding field_at
number_any s at = go (number_at s at) refl
  where
    go : (n : Numeral) → number_at s at ≡ n → n ≡ bounded 0 greatest n
    go (numeral v next) e = rw (le-leb 0 v zero-le, le-leb v greatest (number_past s at v next e).2)
    go (illegible n) e = refl

pub number_field : (s : List ℕ) (st : Stand) → number s st ≡ within 0 greatest s st
number_field s st = number_is s st ∙ ap (λ n. read_of st (numbered st.at n)) (number_any s st.at) ∙ sym (within_is 0 greatest s st)

-- a field is the number that stands there
pub field_number : (s : List ℕ) (at low high v next : ℕ) → field_at s at low high ≡ numeral v next → number_at s at ≡ numeral v next
unfolding field_at
field_number s at low high v next e = go (number_at s at) e
  where
    judge : (t : Bool) (w x : ℕ) → when t (numeral w x) (illegible 4) ≡ numeral v next → numeral w x ≡ numeral v next
    judge true w x q = q
    judge false w x q = let z : ◌≡◌ {A = ℕ} 0 1 = cc in absurd (omega arith)

    go : (n : Numeral) → bounded low high n ≡ numeral v next → n ≡ numeral v next
    go (numeral w x) q = judge (leb low w && leb w high) w x q
    go (illegible n) q = q

-- what the model's reader reads where the code answers this
pub field_read : (s : List ℕ) (at low high rules sources : ℕ) (a : Answer Number) → a ≡ numbered at (field_at s at low high)
    → within low high s (stand at rules sources) ≡ read_of (stand at rules sources) a
field_read s at low high rules sources a e = within_is low high s (stand at rules sources) ∙ ap (read_of (stand at rules sources)) (sym e)

-- one field, two fields
module _ (s : List ℕ) (at most sources : ℕ) where
  pub one : (a : Answer Number) → a ≡ numbered at (field_at s at 0 most) → (rules : ℕ)
      → noted (read_of (stand at rules sources) a) ≡ noted (within 0 most s (stand at rules sources))
  one a e rules = sym (ap noted (field_read s at 0 most rules sources a e))

  pub two_refused : (n p : ℕ) → answer.refused n p ≡ numbered at (field_at s at 0 most) → (rules : ℕ)
      → answer.refused n p ≡ noted (twice most s (stand at rules sources))
  two_refused n p e rules = sym (ap (λ m. noted (after m (λ low st. within 0 most s st))) (field_read s at 0 most rules sources (answer.refused n p) e))

  pub two_got : (n : Number) → fine n ≡ numbered at (field_at s at 0 most) → (r : Answer ExpressionRead)
      → ((rules : ℕ) → r ≡ noted (within 0 most s (stand n.next rules sources)))
      → (rules : ℕ) → r ≡ noted (twice most s (stand at rules sources))
  two_got n e r h rules = h rules ∙ sym (ap (λ m. noted (after m (λ low st. within 0 most s st))) (field_read s at 0 most rules sources (fine n) e))
