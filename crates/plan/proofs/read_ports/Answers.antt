-- `plan::read_ports` meets its contract. The loop's invariant: to write the ports that are left is to write all. Assumes nothing.
use Rattle.std.specs.Prelude.{Ok, Err}
use Rattle.std.proofs.Common.{◌≡◌, suc, ◌+◌, ◌-◌, ◌≤◌, ◌<◌, length, ◌∙◌, refl, arith, rules}
use native.Mathlib.Nat.{sub-zero}
use Rattle.std.proofs.lemmas.Result.{err_from_is_err_and}
use lib.ListN.{length-set}
use Rattle.model.specs.Limits.{ports_most, ranges_most}
use Rattle.plan.specs.Contents.{slots}
use Rattle.plan.specs.Written.{standing, one_port, Sized}
use Rattle.plan.proofs.Room.{room, more_room}
use Rattle.plan.proofs.Ports.{ended, port_leaves, ports_none, ports_stop, ports_more}
use Rattle.plan.proofs.read_ports.Goals as goal

pub loop-i-init : goal.loop-i-init
loop-i-init c =
    let sized : Sized c.args.contents.now = record { number = search rules; first = search rules; low = search rules; high = search rules } in
    record { sized = sized; ports = refl; room = omega arith; rest = λ r k h. rw sub-zero at h }

pub read_port-requires : goal.read_port-requires
read_port-requires c = room ranges_most ports_most c.loop-i.i c.loop-i.to (omega arith) c.loop-i.invariant.room

pub returns-in_err-port : goal.returns-in_err-port
returns-in_err-port c =
    let more : c.args.contents.now.ports - c.loop-i.i ≡ suc (c.args.contents.now.ports - (c.loop-i.i + 1)) = omega arith in
    let in-first : c.loop-i.i < length c.loop-i.contents.first = omega (arith, c.loop-i.invariant.sized.first) in
    let p = err_from_is_err_and c.from_residual.result c.from_residual.ensures.1 in
    rw p.1 (c.loop-i.invariant.rest (Err p.0) c.read_port.new.contents (rw p.2
    (ports_stop _ c.loop-i.contents c.loop-i.i c.loop-i.to in-first c.read_port.new.contents c.read_port.new.contents _ _ more _ _ _ c.in_err-port.ensures)))

pub loop-i-preserved : goal.loop-i-preserved
loop-i-preserved c =
    let more : c.args.contents.now.ports - c.loop-i.i ≡ suc (c.args.contents.now.ports - (c.loop-i.i + 1)) = omega arith in
    let fits : c.loop-i.to + ranges_most ≤ slots = room ranges_most ports_most c.loop-i.i c.loop-i.to (omega arith) c.loop-i.invariant.room in
    let left = port_leaves _ _ _ _ (one_port c.loop-i.least c.args.s.now (standing c.loop-i.next)) c.in_ok-port.ensures c.loop-i.invariant.sized fits in
    let in-first : c.loop-i.i < length c.loop-i.contents.first = omega (arith, c.loop-i.invariant.sized.first) in
    let in-number : c.loop-i.i < length c.loop-i.contents.number = omega (arith, c.loop-i.invariant.sized.number) in
    record {
      sized = record { number = simp length-set left.0.number; first = simp length-set left.0.first; low = left.0.low; high = left.0.high };
      ports = left.2 ∙ c.loop-i.invariant.ports;
      room = more_room _ _ _ _ c.loop-i.invariant.room left.1;
      rest = λ r k h. c.loop-i.invariant.rest r k
          (ports_more _ _ _ _ in-first _ _ _ _ more _ _ _ c.in_ok-port.ensures in-number
          c.loop-i.invariant.sized (omega (arith, fits)) r (rw c.from-least.ensures at h));
    }

pub returns : goal.returns
returns c =
    let all : c.loop-i.contents.ports ≡ c.loop-i.i = omega (arith, c.loop-i.invariant.ports) in
    let in-first : c.loop-i.i < length c.loop-i.contents.first = omega (arith, c.loop-i.invariant.sized.first) in
    let none : c.args.contents.now.ports - c.loop-i.i ≡ 0 = omega arith in
    c.loop-i.invariant.rest (Ok c.loop-i.next) (ended c.loop-i.contents c.loop-i.contents.ports c.loop-i.to)
    (ports_none c.args.s.now c.loop-i.contents c.loop-i.i c.loop-i.to in-first _ c.loop-i.least c.loop-i.next none _ all)
