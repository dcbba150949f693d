-- `plan::read_plan` meets its contract: the length, the count, the ports, and nothing behind them. Assumes nothing.
use Rattle.std.proofs.lemmas.Result.{err_from_is_err_and}
use Rattle.model.specs.Limits.{ports_most}
use Rattle.model.specs.Book.{within}
use Rattle.plan.specs.Written.{standing}
use Rattle.plan.proofs.Readings.{field_limits}
use Rattle.plan.proofs.Whole.{plan_long, edition_bad, many_bad, body_bad, extra, fine_plan}
use Rattle.plan.proofs.read_plan.Goals as goal

pub returns-then-s-gt-BYTES : goal.returns-then-s-gt-BYTES
returns-then-s-gt-BYTES c = rw c.at.ensures (plan_long _ c.if-s-gt-BYTES.true)

pub returns-in_err-edition : goal.returns-in_err-edition
returns-in_err-edition c =
    let p = err_from_is_err_and c.from_residual.result c.from_residual.ensures.1 in
    rw (p.1, p.2) (edition_bad _ c.if-s-gt-BYTES.false _ c.in_err-edition.ensures)

pub returns-in_err-ports : goal.returns-in_err-ports
returns-in_err-ports c =
    let p = err_from_is_err_and c.from_residual-in_err-ports.result c.from_residual-in_err-ports.ensures.1 in
    rw (p.1, p.2) (many_bad _ c.if-s-gt-BYTES.false _ c.in_ok-edition.ensures _ c.in_err-ports.ensures)

pub read_ports-requires : goal.read_ports-requires
read_ports-requires c =
    (field_limits 0 ports_most c.in_ok-ports.ports (within 0 ports_most c.args.s.now (standing c.in_ok-edition.edition.next)) c.in_ok-ports.ensures).1

pub returns-in_err-end : goal.returns-in_err-end
returns-in_err-end c =
    let p = err_from_is_err_and c.from_residual-in_err-end.result c.from_residual-in_err-end.ensures.1 in
    rw (p.1, p.2) (body_bad _ c.if-s-gt-BYTES.false _ c.in_ok-edition.ensures _ c.in_ok-ports.ensures c.read_ports.new.contents _ c.in_err-end.ensures)

pub returns-then-end-s : goal.returns-then-end-s
returns-then-end-s c =
    rw c.at-then-end-s.ensures (extra _ c.if-s-gt-BYTES.false _ c.in_ok-edition.ensures _ c.in_ok-ports.ensures _ _ c.in_ok-end.ensures c.if-end-s.true)

pub returns : goal.returns
returns c = fine_plan _ c.if-s-gt-BYTES.false _ c.in_ok-edition.ensures _ c.in_ok-ports.ensures _ _ c.in_ok-end.ensures c.if-end-s.false
