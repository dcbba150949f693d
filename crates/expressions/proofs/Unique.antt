-- The contract of `read_expression` leaves one answer. Assumes nothing.
use Rattle.std.specs.Prelude.{Result}
use Rattle.std.proofs.Common.{◌≡◌, ℕ, List, sym, ◌∙◌}
use Rattle.model.specs.Book.{expression}
use Rattle.refusals.specs.Refusals.{told}
use Rattle.refusals.specs.declared.Refusal.{Refusal}
use Rattle.refusals.proofs.Unique.{one_told}
use Rattle.expressions.specs.Told.{noted, stand}
use Rattle.expressions.specs.declared.ExpressionRead.{ExpressionRead}

pub read_expression_unique : (s : List ℕ) (at levels sources : ℕ) (r r' : Result ExpressionRead Refusal)
    → ((rules : ℕ) → told r ≡ noted (expression levels s (stand at rules sources)))
    → ((rules : ℕ) → told r' ≡ noted (expression levels s (stand at rules sources)))
    → r ≡ r'
read_expression_unique s at levels sources r r' a b = one_told r r' (a 0 ∙ sym (b 0))
