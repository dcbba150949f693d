-- Each contract leaves one answer, and one reader after it. Assumes nothing.
use Rattle.std.specs.Prelude.{Result}
use Rattle.std.proofs.Common.{◌≡◌, ◌∙◌, ℕ, List, Bor, sym, ap, drop}
use Rattle.model.specs.Number.{number_at}
use Rattle.refusals.specs.Refusals.{told}
use Rattle.refusals.specs.declared.Refusal.{Refusal}
use Rattle.refusals.proofs.Unique.{one_told}
use Rattle.numbers.specs.Told.{numbered}
use Rattle.numbers.specs.declared.Number.{Number}
use Rattle.expressions.specs.declared.ExpressionRead.{ExpressionRead}
use Rattle.reader.specs.Moved.{expression_at, past_number, past_expression, number_from, expression_from, after_number, after_expression}
use Rattle.reader.specs.declared.Reader.{Reader}
use Rattle.reader.specs.declared.Pair.{Pair}

-- an answer is known from what it tells
pub told_unique : (n n' : Result Number Refusal) → told n ≡ told n' → n ≡ n'
told_unique = one_told

-- two that equal one thing are equal
same : {A : Type 0} {x y z : A} → x ≡ z → y ≡ z → x ≡ y
same a b = a ∙ sym b

pub start_unique : (book : Bor (List ℕ)) (r r' : Reader) → (r.book ≡ book) × (r.at ≡ 0) → (r'.book ≡ book) × (r'.at ≡ 0) → r ≡ r'
start_unique book r r' a b = λ i. record { book = same a.0 b.0 i; at = same a.1 b.1 i }

pub place_unique : (r : Reader) (n n' : ℕ) → n ≡ r.at → n' ≡ r.at → n ≡ n'
place_unique r n n' = same

-- the part's bytes; it lies in the lent book, whatever its pointer
pub rest_unique : (r : Reader) (s s' : Bor (List ℕ)) → s.now ≡ drop r.at r.book.now → s'.now ≡ drop r.at r.book.now → s.now ≡ s'.now
rest_unique r s s' = same

abbrev NumberThen : Reader → Result Number Refusal → Reader → Type 0
NumberThen r n r' = (told n ≡ number_from r) × (r' ≡ after_number r n)

pub next_number_unique : (r : Reader) (n n' : Result Number Refusal) (after after' : Reader)
    → NumberThen r n after → NumberThen r n' after' → (n ≡ n') × (after ≡ after')
next_number_unique r n n' after after' a b =
    let one = told_unique n n' (same a.0 b.0) in
    (one, a.1 ∙ (ap (after_number r) one ∙ sym b.1))

abbrev ExpressionThen : (levels sources : ℕ) → Reader → Result ExpressionRead Refusal → Reader → Type 0
ExpressionThen levels sources r e r' = ((rules : ℕ) → told e ≡ expression_from levels sources rules r) × (r' ≡ after_expression r e)

pub next_expression_unique : (levels sources : ℕ) (r : Reader) (e e' : Result ExpressionRead Refusal) (after after' : Reader)
    → ExpressionThen levels sources r e after → ExpressionThen levels sources r e' after' → (e ≡ e') × (after ≡ after')
next_expression_unique levels sources r e e' after after' a b =
    let one = one_told e e' (same (a.0 0) (b.0 0)) in
    (one, a.1 ∙ (ap (after_expression r) one ∙ sym b.1))

abbrev PairAt : (levels sources : ℕ) → List ℕ → ℕ → Pair → Type 0
PairAt levels sources s at p =
    (told p.number ≡ numbered at (number_at s at)) × ((rules : ℕ) → told p.expression ≡ expression_at levels sources rules s (past_number at p.number))
    × (p.next ≡ past_expression (past_number at p.number) p.expression)

pub read_pair_unique : (levels sources : ℕ) (s : List ℕ) (at : ℕ) (p p' : Pair) → PairAt levels sources s at p → PairAt levels sources s at p' → p ≡ p'
read_pair_unique levels sources s at p p' a b =
    let number = told_unique p.number p'.number (same a.0 b.0) in
    let told_alike = a.1 0 ∙ (ap (λ (n : Result Number Refusal). expression_at levels sources 0 s (past_number at n)) number ∙ sym (b.1 0)) in
    let expression = one_told p.expression p'.expression told_alike in
    let next = a.2 ∙ ((λ i. past_expression (past_number at (number i)) (expression i)) ∙ sym b.2) in
    λ i. record { number = number i; expression = expression i; next = next i }
