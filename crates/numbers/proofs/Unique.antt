-- Each answer has one right value: two answers that meet a function's statement are equal.
use Rattle.std.specs.Prelude.{Result}
use Rattle.std.proofs.Common.{◌≡◌, ℕ, List, sym, ◌∙◌}
use Rattle.refusals.specs.declared.Refusal.{Refusal}
use Rattle.refusals.specs.Refusals.{told}
use Rattle.refusals.proofs.Unique.{one_told}
use Rattle.model.specs.Number.{numeral, number_at}
use Rattle.numbers.specs.Told.{numbered}
use Rattle.numbers.specs.Field.{field_at}
use Rattle.numbers.specs.declared.Number.{Number}

module _ (s : List ℕ) (at : ℕ) where
  pub read_number_unique : (a b : Result Number Refusal) → told a ≡ numbered at (number_at s at) → told b ≡ numbered at (number_at s at) → a ≡ b
  read_number_unique a b p q = one_told a b (p ∙ sym q)

  pub read_field_unique : (low high : ℕ) (a b : Result Number Refusal)
      → told a ≡ numbered at (field_at s at low high) → told b ≡ numbered at (field_at s at low high) → a ≡ b
  read_field_unique low high a b p q = one_told a b (p ∙ sym q)

  pub number_here_unique : (a b : Number) → number_at s at ≡ numeral a.value a.next → number_at s at ≡ numeral b.value b.next → a ≡ b
  number_here_unique a b p q = let e : numeral a.value a.next ≡ numeral b.value b.next = sym p ∙ q in
      let v : a.value ≡ b.value = cc in let n : a.next ≡ b.next = cc in λ i. record { value = v i; next = n i }
