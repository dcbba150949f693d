-- `expressions::read_two` meets its contract. Assumes nothing.
use Rattle.std.proofs.lemmas.Result.{err_from_is_err_and}
use Rattle.expressions.proofs.Fields.{two_refused, two_got}
use Rattle.expressions.proofs.read_two.Goals as goal

pub returns-in_err-low : goal.returns-in_err-low
returns-in_err-low c =
    let p = err_from_is_err_and c.from_residual.result c.from_residual.ensures.1 in
    rw (p.1, p.2) (two_refused _ _ _ _ _ _ c.in_err-low.ensures)

pub returns : goal.returns
returns c = two_got _ _ _ _ _ c.in_ok-low.ensures _ c.read_one.ensures
