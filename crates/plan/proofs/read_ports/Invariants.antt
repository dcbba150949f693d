-- `plan::read_ports` meets its contract. The loop's invariant: to write the ports that are left is to write all. Assumes nothing.
use Rattle.std.specs.Prelude.{Result}
use Rattle.std.proofs.Common.{◌≡◌, ℕ, ◌-◌, ◌*◌, ◌≤◌}
use Rattle.model.specs.Limits.{ranges_most}
use Rattle.model.specs.Plan.{ports_from}
use Rattle.refusals.specs.declared.Refusal.{Refusal}
use Rattle.plan.specs.declared.PlanContents.{PlanContents}
use Rattle.plan.specs.Written.{standing, Sized, PortsAre}
use Rattle.plan.proofs.read_ports.Given as goal

abbrev pub invariant-loop-i : goal.invariant-loop-i
invariant-loop-i l =
    record {
      sized : Sized l.contents;
      ports : l.contents.ports ≡ l.initial.contents.ports;
      room : l.to ≤ l.i * ranges_most;
      rest : (r : Result ℕ Refusal) (c : PlanContents)
          → PortsAre (l.initial.contents.ports - l.i) l.i l.to l.contents c r (ports_from (l.initial.contents.ports - l.i) l.least l.s (standing l.next))
          → PortsAre l.initial.contents.ports 0 0 l.initial.contents c r (ports_from l.initial.contents.ports 0 l.s (standing l.at));
    }
