-- Each turn is one port, by the laws of PortLoop.
use Rattle.report.proofs.PortLoop.{Going}
use Rattle.report.proofs.put_ports.Given as goal

abbrev pub invariant-loop-i : goal.invariant-loop-i
invariant-loop-i l = Going l.book l.plan l.initial.text l.text l.i
