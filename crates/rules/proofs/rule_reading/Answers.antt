-- `rules::rule_reading` meets its contract: the check of the book, and then its contents. Assumes nothing.
use Rattle.std.proofs.Common.{◌∙◌}
use Rattle.std.specs.Prelude.{Err}
use Rattle.std.proofs.lemmas.Result.{err_from_is_err_and}
use Rattle.checking.proofs.Uses.{from_ok, from_err}
use Rattle.rules.proofs.Laws.{few, both_say, book_refused, book_fine}
use Rattle.rules.proofs.rule_reading.Goals as goal

pub bounds-requires : goal.bounds-requires
bounds-requires c =
    let k = from_ok _ _ c.check.ensures _ c.in_ok-checked.was in
    few _ k.book k.read _ k.contents

pub returns-in_err-checked : goal.returns-in_err-checked
returns-in_err-checked c =
    let p = err_from_is_err_and c.from_residual.result c.from_residual.ensures.1 in
    let so = both_say _ _ (Err _) (book_refused _ _ _ (from_err _ _ c.check.ensures _ c.in_err-checked.was)) in
    rw (p.1, p.2) (record { stands = so.0; entry = so.1 })

pub returns : goal.returns
returns c =
    let k = from_ok _ _ c.check.ensures _ c.in_ok-checked.was in
    let so = both_say _ _ c.bounds.result (c.bounds.ensures _ k.book k.read k.contents ∙ book_fine _ _ k.book k.read) in
    record { stands = so.0; entry = so.1 }
