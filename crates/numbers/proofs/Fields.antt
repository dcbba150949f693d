-- The model's reader of a number or a field is what stands at its place.
use Rattle.std.specs.Prelude.{◌&&◌, leb}
use Rattle.std.proofs.Common.{◌≡◌, ◌∙◌, ℕ, ◌≤◌, Bool, true, false, List, refl, sym, ap, subst}
use Rattle.model.specs.Answer.{when, Answer, fine, refused}
use Rattle.model.specs.Reader.{Stand, Read, got, refused as unread, after, give, refuse}
use Rattle.model.specs.Number.{Numeral, numeral, illegible, number_at, onward, number}
use Rattle.model.specs.Book.{within}
use Rattle.model.proofs.Success.{Got, Moved, within_got}
use Rattle.numbers.specs.Told.{numbered}
use Rattle.numbers.specs.Field.{bounded, field_at}
use Rattle.numbers.specs.declared.Number.{Number}

-- an answer of the code says what stands there
pub numeral_of : (at : ℕ) (n : Number) (m : Numeral) → fine n ≡ numbered at m → m ≡ numeral n.value n.next
numeral_of at n (numeral v next) e =
    let q : n ≡ record { value = v; next = next } = cc in
    sym (ap (λ (x : Number). numeral x.value x.next) q)
numeral_of at n (illegible k) e = cc

pub illegible_of : (at k p : ℕ) (m : Numeral) → ◌≡◌ {A = Answer Number} (refused k p) (numbered at m) → (m ≡ illegible k) × (p ≡ at)
illegible_of at k p (numeral v next) e = cc
illegible_of at k p (illegible n) e = let a : n ≡ k = cc in let b : p ≡ at = cc in (ap illegible a, b)

-- what the model's reader reads where the code answers this
abbrev pub read_of : Stand → Answer Number → Read ℕ
read_of st (fine n) = got n.value (record { at = n.next; rules = st.rules; sources = st.sources })
read_of st (refused k p) = unread k p

onward_is : (st : Stand) (n : Numeral) → onward st n ≡ read_of st (numbered st.at n)
onward_is st (numeral v next) = refl
onward_is st (illegible n) = refl

pub number_is : (s : List ℕ) (st : Stand) → number s st ≡ read_of st (numbered st.at (number_at s st.at))
unfolding number
number_is s st = onward_is st (number_at s st.at)

pub within_is : (low high : ℕ) (s : List ℕ) (st : Stand) → within low high s st ≡ read_of st (numbered st.at (field_at s st.at low high))
unfolding field_at number
within_is low high s st = go (number_at s st.at)
  where
    judge : (b : Bool) (v next : ℕ) →
        when b (give v) (refuse 4 st.at) s (record { at = next; rules = st.rules; sources = st.sources })
        ≡ read_of st (numbered st.at (when b (numeral v next) (illegible 4)))
    judge true v next = refl
    judge false v next = refl

    go : (n : Numeral) → after (onward st n) (λ v st'. when (leb low v && leb v high) (give v) (refuse 4 st.at) s st')
        ≡ read_of st (numbered st.at (bounded low high n))
    go (numeral v next) = judge (leb low v && leb v high) v next
    go (illegible n) = refl

-- a field that is read is within its limits
pub field_within : (s : List ℕ) (at low high v next : ℕ) → field_at s at low high ≡ numeral v next → (low ≤ v) × (v ≤ high)
field_within s at low high v next e =
    let st : Stand = record { at = at; rules = 0; sources = 0 } in
    let read : within low high s st ≡ got v (record { at = next; rules = 0; sources = 0 }) =
    within_is low high s st ∙ ap (λ (n : Numeral). read_of st (numbered at n)) e in
    let k = subst (λ (m : Read ℕ). Got m (λ n st'. (low ≤ n) × (n ≤ high) × Moved s st st')) read (within_got low high s st) in
    (k.0, k.1)
