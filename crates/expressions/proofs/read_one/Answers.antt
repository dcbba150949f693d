-- `expressions::read_one` meets its contract. Assumes nothing.
use Rattle.std.proofs.lemmas.Result.{err_from_is_err_and}
use Rattle.expressions.proofs.Fields.{one}
use Rattle.expressions.proofs.read_one.Goals as goal

pub returns-in_err-number : goal.returns-in_err-number
returns-in_err-number c =
    let p = err_from_is_err_and c.from_residual.result c.from_residual.ensures.1 in
    rw (p.1, p.2) (one _ _ _ _ _ c.in_err-number.ensures)

pub returns : goal.returns
returns c = one _ _ _ _ _ c.in_ok-number.ensures
