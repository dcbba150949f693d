-- From what the model reads to what a function answers: a refusal stands, and a value is gone on from.
use Rattle.std.specs.Prelude.{Result, Ok, Err, MatchResult, IsErrAnd}
use Rattle.std.proofs.Common.{◌≡◌, ◌∙◌, ℕ, ◌≤◌, List, refl, sym, ap}
use Rattle.model.specs.Answer as answer
use Rattle.model.specs.Answer.{Answer, fine}
use Rattle.model.specs.Reader.{Stand, Read, got, refused, after}
use Rattle.model.specs.Book.{within}
use Rattle.numbers.specs.Told.{numbered}
use Rattle.numbers.specs.Field.{field_at}
use Rattle.numbers.specs.declared.Number.{Number}
use Rattle.numbers.proofs.Fields.{numeral_of, illegible_of, read_of, within_is, field_within}
use Rattle.refusals.specs.declared.Refusal.{Refusal}
use Rattle.refusals.specs.declared.Fault.TheVariants.{BadPlan}
use Rattle.refusals.specs.Refusals.{number_of, refusal_at, told}
use Rattle.plan.specs.Written.{standing, Reads, FieldGot, FieldIs}

module _ {A C D : Type 0} (Goes : C → Stand → D → Type 0) (k : A → Stand → Read C) where
  module _ {B : Type 0} (Gets : A → Stand → B → Type 0) where
    pub stop : (e : Refusal) (m : Read A) → Reads Gets (Err e) m → Reads Goes (Err e) (after m k)
    stop e (got a st) h = absurd h
    stop e (refused n p) h = h

    pub on : (b : B) (r : Result D Refusal) (m : Read A) → Reads Gets (Ok b) m → ((a : A) (st : Stand) → Gets a st b → Reads Goes r (k a st)) → Reads Goes r (after m k)
    on b r (got a st) h f = f a st h
    on b r (refused n p) h f = absurd h

-- what is read is part of what is given
pub given : {A B C : Type 0} (Goes : C → Stand → B → Type 0) (f : A → C) (Gets : A → Stand → B → Type 0) (r : Result B Refusal) (m : Read A)
    → Reads Gets r m → ((a : A) (st : Stand) (b : B) → Gets a st b → Goes (f a) st b) → Reads Goes r (after m (λ a st. got (f a) st))
given Goes f Gets (Ok b) (got a st) h q = q a st b h
given Goes f Gets (Ok b) (refused n p) h q = h
given Goes f Gets (Err e) (got a st) h q = h
given Goes f Gets (Err e) (refused n p) h q = h

module _ {C D : Type 0} (Goes : C → Stand → D → Type 0) (k : ℕ → Stand → Read C) (low high : ℕ) (n : Number) (r : Result D Refusal) where
  pub on_field : (m : Read ℕ) → FieldIs low high (Ok n) m → Reads Goes r (k n.value (standing n.next)) → Reads Goes r (after m k)
  on_field m h g = on Goes k (FieldGot low high) n r m h (λ v st q. rw (q.value, q.stands) g)

-- ONE FIELD
module _ (s : List ℕ) (at low high : ℕ) where
  field_read : (a : Answer Number) → a ≡ numbered at (field_at s at low high) → within low high s (standing at) ≡ read_of (standing at) a
  field_read a e = within_is low high s (standing at) ∙ ap (read_of (standing at)) (sym e)

  field_fine : (n : Number) → fine n ≡ numbered at (field_at s at low high) → FieldIs low high (Ok n) (within low high s (standing at))
  field_fine n e =
      let limits = field_within s at low high n.value n.next (numeral_of at n (field_at s at low high) e) in
      rw (field_read (fine n) e) (record { value = refl; stands = refl; least = limits.0; most = limits.1 })

  -- whatever the refusal, it is told as 11
  module _ (Told : Refusal → Refusal → Type 0) (eleven : (e d : Refusal) → Told e d → d ≡ refusal_at BadPlan at) where
    pub field_answer : (r r' : Result Number Refusal) → told r ≡ numbered at (field_at s at low high)
        → MatchResult r (λ n. r' ≡ Ok n) (λ e. IsErrAnd r' (Told e)) → FieldIs low high r' (within low high s (standing at))
    field_answer (Ok n) r' e h = rw h (field_fine n e)
    field_answer (Err f) (Ok n) e h = absurd h
    field_answer (Err f) (Err d) e h =
        rw (field_read (answer.refused (number_of f.fault) f.place) e) (eleven f d h ∙ ap (refusal_at BadPlan) (sym (illegible_of at (number_of f.fault) f.place (field_at s at low high) e).1))

pub field_limits : (low high : ℕ) (n : Number) (m : Read ℕ) → FieldIs low high (Ok n) m → (low ≤ n.value) × (n.value ≤ high)
field_limits low high n (got v st) h = (h.least, h.most)
field_limits low high n (refused k p) h = absurd h
