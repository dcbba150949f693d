-- The next place and the buffer after it are one, and so is a text after bytes were pushed.
use Rattle.std.proofs.Common.{◌≡◌, ◌∙◌, ℕ, List, ◌++◌, ap, sym}
use Rattle.arrayvec.specs.ArrayVec.{ArrayVec}
use Rattle.text.specs.Puts.{Puts}

pub puts_unique : {w : List ℕ} {at : ℕ} {xs : List ℕ} {r r' : ℕ} {v v' : List ℕ} → Puts w at xs r v → Puts w at xs r' v' → (r ≡ r') × (v ≡ v')
puts_unique p q = (p.next ∙ sym q.next, p.written ∙ sym q.written)

pub pushed_unique : (w v v' : ArrayVec ℕ) (xs : List ℕ) → v.items ≡ w.items ++ xs → v'.items ≡ w.items ++ xs → v ≡ v'
pushed_unique w v v' xs p q = ap (λ (ys : List ℕ). record { items = ys }) (p ∙ sym q)
