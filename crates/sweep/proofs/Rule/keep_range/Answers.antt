-- `sweep::Rule::keep_range` meets its contract. The invariant: the slots hold, below x, the writing of any P that is what stays of the range. Assumes nothing.
use Rattle.std.proofs.Common.{arith}
use Rattle.std.proofs.lemmas.Result.{err_from_is_err_and}
use Rattle.sweep.proofs.Rule.keep_range.Goals as goal

pub returns-in_err-last : goal.returns-in_err-last
returns-in_err-last c =
    let l = c.loop-last in
    let p = err_from_is_err_and c.from_residual.result c.from_residual.ensures.1 in
    rw p.1 (record {
      fits = omega (arith, c.ranges.high);
      filled = tt;
      grown = λ cs w P h same. c.in_err-last.ensures.grown cs w P (l.invariant.held cs w P h same) (λ y u v. same y (omega (arith, l.invariant.from)) v);
    })
