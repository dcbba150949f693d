-- `plan::read_port` meets its contract: two fields, then the ranges. Assumes nothing.
use Rattle.std.proofs.Common.{arith}
use Rattle.std.proofs.lemmas.Result.{err_from_is_err_and}
use Rattle.model.specs.Limits.{ranges_most}
use Rattle.model.specs.Book.{within}
use Rattle.plan.specs.Written.{standing}
use Rattle.plan.proofs.Readings.{field_limits}
use Rattle.plan.proofs.Ports.{number_bad, count_bad, one_bad, one_got}
use Rattle.plan.proofs.read_port.Goals as goal

pub read_ranges-requires : goal.read_ranges-requires
read_ranges-requires c =
    let few = field_limits 0 ranges_most c.in_ok-count.count (within 0 ranges_most c.args.s.now (standing c.in_ok-number.number.next)) c.in_ok-count.ensures in
    omega (arith, few.1, c.requires)

pub returns-in_err-number : goal.returns-in_err-number
returns-in_err-number c =
    let p = err_from_is_err_and c.from_residual.result c.from_residual.ensures.1 in
    rw (p.1, p.2) (number_bad _ c.args.to c.args.contents.now c.args.contents.now _ _ _ c.in_err-number.ensures)

pub returns-in_err-count : goal.returns-in_err-count
returns-in_err-count c =
    let p = err_from_is_err_and c.from_residual-in_err-count.result c.from_residual-in_err-count.ensures.1 in
    rw (p.1, p.2) (count_bad _ c.args.to c.args.contents.now c.args.contents.now _ _ _ c.in_ok-number.ensures _ c.in_err-count.ensures)

pub returns-in_err-next : goal.returns-in_err-next
returns-in_err-next c =
    let p = err_from_is_err_and c.from_residual-in_err-next.result c.from_residual-in_err-next.ensures.1 in
    rw (p.1, p.2) (one_bad _ c.args.to c.args.contents.now c.read_ranges.new.contents _ _ _ c.in_ok-number.ensures _ c.in_ok-count.ensures _ c.in_err-next.ensures)

pub returns : goal.returns
returns c = one_got _ _ _ _ _ _ _ c.in_ok-number.ensures _ c.in_ok-count.ensures _ c.in_ok-next.ensures
