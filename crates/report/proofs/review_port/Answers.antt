-- The port's suspects, and its review over the list.
use native.Mathlib.Omega.{arith}
use Rattle.report.proofs.PortLoop.{plan_shape}
use Rattle.report.proofs.Reviewing.{reviewable, reviewed}
use Rattle.report.proofs.review_port.Goals as goal

pub port_suspects-suspects-requires-clause-shape : goal.port_suspects-suspects-requires-clause-shape
port_suspects-suspects-requires-clause-shape c = plan_shape c.args.plan.now c.requires.1

pub offset_bounds-plan-i : goal.offset_bounds-plan-i
offset_bounds-plan-i c = omega (arith, (plan_shape c.args.plan.now c.requires.1).few, c.requires.2)

pub bounds-plan-i : goal.bounds-plan-i
bounds-plan-i c = omega (arith, (plan_shape c.args.plan.now c.requires.1).few, c.requires.2)

pub review_list-requires : goal.review_list-requires
review_list-requires c =
    reviewable c.args.book.now c.args.list.now c.requires.0 c.args.plan.now c.requires.1 c.args.i c.requires.2
    c.port_suspects-suspects.result c.port_suspects-suspects.ensures

pub returns : goal.returns
returns c =
    reviewed c.args.book.now c.args.list.now c.requires.0 c.args.plan.now c.requires.1 c.args.i c.requires.2
    c.port_suspects-suspects.result c.port_suspects-suspects.ensures c.review_list.result c.review_list.ensures
