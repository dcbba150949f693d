-- Each turn is one port, by the laws of PortLoop.
use native.Mathlib.Omega.{arith}
use Rattle.report.specs.Lines.{buffer_bytes}
use Rattle.report.proofs.PortLoop.{starts, ends, line_room, next, plan_shape}
use Rattle.report.proofs.put_ports.Goals as goal

pub loop-i-init : goal.loop-i-init
loop-i-init c = starts c.args.book.now c.args.plan.now c.args.text.now

pub review_port-reviewed-requires : goal.review_port-reviewed-requires
review_port-reviewed-requires c = (c.requires.0, c.requires.1, c.loop-i-test.true)

pub offset_bounds-plan-i : goal.offset_bounds-plan-i
offset_bounds-plan-i c = omega (arith, (plan_shape c.args.plan.now c.requires.1).few, c.loop-i-test.true)

pub bounds-plan-i : goal.bounds-plan-i
bounds-plan-i c = omega (arith, (plan_shape c.args.plan.now c.requires.1).few, c.loop-i-test.true)

pub put_port-requires : goal.put_port-requires
put_port-requires c =
    line_room c.args.book.now c.args.plan.now c.args.text.now c.loop-i.text c.loop-i.i c.loop-i.invariant c.requires.1 c.loop-i-test.true buffer_bytes c.requires.2

pub loop-i-preserved : goal.loop-i-preserved
loop-i-preserved c =
    next c.args.book.now c.args.plan.now c.args.text.now c.loop-i.text c.loop-i.i c.loop-i.invariant c.requires.1 c.loop-i-test.true
    c.review_port-reviewed.result c.review_port-reviewed.ensures _ c.put_port.ensures

pub returns : goal.returns
returns c = ends c.args.book.now c.args.plan.now c.args.text.now c.loop-i.text c.loop-i.i c.loop-i.invariant c.loop-i-test.false
