-- How much of the contents of a checked book is in use. Assumes nothing.
use Rattle.std.specs.Prelude.{ℕ, ◌≤◌, List, Result, Ok}
use Rattle.std.proofs.Common.{◌≡◌, sym, subst}
use Rattle.model.specs.Limits.{chains_most, rules_most}
use Rattle.book.specs.declared.Contents.{Contents}
use Rattle.checking.specs.Checks.{Checks}
use Rattle.checking.specs.declared.Checked.{Checked}
use Rattle.checking.specs.declared.Unfit.{Unfit}
use Rattle.checking.proofs.Uses.{from_ok, readable_charted}

-- a book that is not refused has few chains and few rules
pub checked_few : (s : List ℕ) (r : Result Checked Unfit) → Checks s r → (k : Checked) → r ≡ Ok k → (k.contents.chains ≤ chains_most) × (k.contents.rules ≤ rules_most)
checked_few s r h k e =
    let f = from_ok s r h k e in
    let shape = (readable_charted s f.book f.read).shape in
    subst (λ (c : Contents). (c.chains ≤ chains_most) × (c.rules ≤ rules_most)) (sym f.contents) (shape.few, shape.room)
