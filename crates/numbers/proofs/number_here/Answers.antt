-- `numbers::number_here` meets its contract: the same steps as in read_number, none of which can refuse. Assumes nothing.
use Rattle.std.proofs.Common.{◌≡◌, ◌+◌, ◌-◌, arith}
use Rattle.numbers.proofs.Rest.{rest_start, room, scale_next, sum_small}
use Rattle.numbers.proofs.Known.{first, onward, further, last}
use Rattle.numbers.proofs.number_here.Goals as goal

pub bounds-s-at : goal.bounds-s-at
bounds-s-at c = omega (arith, first _ _ c.requires)

pub loop-b-init : goal.loop-b-init
loop-b-init c =
    let none : c.args.at - c.args.at ≡ 0 = omega arith in
    let left : c.args.at + 5 - c.args.at ≡ 5 = omega arith in
    record {
      on = omega arith;
      few = omega arith;
      inside = first _ _ c.requires;
      read = c.from-b.ensures;
      byte = rw c.from-b.ensures (c.type_inv.s c.args.at).fits;
      small = omega arith;
      worth = rw none;
      same = rw left (rest_start _ _);
    }

pub overflow_mul-value : goal.overflow_mul-value
overflow_mul-value c = let r = c.loop-b.invariant in omega (arith, room _ _ (c.loop-b.b - 128) (omega (arith, r.few)) r.worth (omega (arith, r.byte)))

pub overflow_add-value : goal.overflow_add-value
overflow_add-value c = let r = c.loop-b.invariant in omega (arith, r.small, room _ _ (c.loop-b.b - 128) (omega (arith, r.few)) r.worth (omega (arith, r.byte)))

pub overflow_mul-scale : goal.overflow_mul-scale
overflow_mul-scale c = let r = c.loop-b.invariant in omega (arith, room _ _ 0 (omega (arith, r.few)) r.worth (omega arith))

pub overflow_add-next : goal.overflow_add-next
overflow_add-next c = omega (arith, c.loop-b.invariant.inside)

pub bounds-s-next : goal.bounds-s-next
bounds-s-next c = omega (arith, further _ _ _ _ _ _ c.requires c.loop-b.invariant c.loop-b-test.true)

pub loop-b-smaller : goal.loop-b-smaller
loop-b-smaller c = omega (arith, c.loop-b.invariant.inside)

pub loop-b-preserved : goal.loop-b-preserved
loop-b-preserved c =
    let l = c.loop-b in
    let r = l.invariant in
    let on = further _ _ _ _ _ _ c.requires r c.loop-b-test.true in
    let up : l.next + 1 - c.args.at ≡ l.next - c.args.at + 1 = omega (arith, r.on) in
    record {
      on = omega (arith, r.on);
      few = omega (arith, on.0);
      inside = on.1;
      read = c.from-b-in-loop-b.ensures;
      byte = rw c.from-b-in-loop-b.ensures (c.type_inv.s (l.next + 1)).fits;
      small = sum_small l.value (l.b - 128) l.scale (omega (arith, r.byte)) r.small;
      worth = rw up (scale_next _ _ r.worth);
      same = onward _ _ _ _ _ _ c.requires r c.loop-b-test.true;
    }

pub overflow_mul-v : goal.overflow_mul-v
overflow_mul-v c = let r = c.loop-b.invariant in omega (arith, room _ _ _ (omega (arith, r.few)) r.worth c.loop-b-test.false)

pub overflow_add-v : goal.overflow_add-v
overflow_add-v c = let r = c.loop-b.invariant in omega (arith, r.small, room _ _ _ (omega (arith, r.few)) r.worth c.loop-b-test.false)

pub overflow_cast-result : goal.overflow_cast-result
overflow_cast-result c = omega (arith, (last _ _ _ _ _ _ c.requires c.loop-b.invariant c.loop-b-test.false).0)

pub overflow_add-result : goal.overflow_add-result
overflow_add-result c = omega (arith, c.loop-b.invariant.inside)

pub returns : goal.returns
returns c = (last _ _ _ _ _ _ c.requires c.loop-b.invariant c.loop-b-test.false).1
