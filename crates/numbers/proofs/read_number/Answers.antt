-- `numbers::read_number` meets its contract. The loop's invariant: what is left to find out from `next` on is the whole answer.
-- Assumes nothing.
use Rattle.std.proofs.Common.{◌≡◌, refl, ◌∙◌, ◌+◌, ◌-◌, ◌*◌, ◌<◌, arith, get_or, inl, inr}
use Rattle.model.specs.Number.{number_at, numeral, illegible}
use Rattle.numbers.proofs.Rest.{rest_start, rest_cut, rest_last, rest_more, rest_long, room, scale_next, sum_small}
use Rattle.numbers.proofs.Rest.{judged_large, judged_zero, judged_first, judged_some}
use Rattle.numbers.proofs.read_number.Goals as goal
use Rattle.numbers.proofs.read_number.Goals.{then-v-gt-LARGEST-via-then-v-gt-LARGEST, then-v-gt-LARGEST-via-else-v-gt-LARGEST+then-at-next}

pub loop-init : goal.loop-init
loop-init c = record { on = omega arith; small = omega arith; worth = refl; same = rest_start _ _ }

pub returns-in_default : goal.returns-in_default
returns-in_default c =
    let l = c.loop in
    let e : number_at c.args.s.now c.args.at ≡ illegible 2 =
    l.invariant.same ∙ rest_cut _ _ l.value l.scale l.next (5 - l.counter) (omega arith) c.in_default.ensures.lookup.3 in
    rw (c.at.ensures, e)

pub overflow_mul-v : goal.overflow_mul-v
overflow_mul-v c = omega (arith, room _ _ _ (omega arith) c.loop.invariant.worth c.if-b-lt128.true)

pub overflow_add-v : goal.overflow_add-v
overflow_add-v c = omega (arith, room _ _ _ (omega arith) c.loop.invariant.worth c.if-b-lt128.true)

pub returns-then-v-gt-LARGEST : goal.returns-then-v-gt-LARGEST
returns-then-v-gt-LARGEST c =
    let l = c.loop in
    let there = c.in-Some.ensures.lookup.3 in
    let byte : c.from-b.result ≡ get_or c.args.s.now l.next 0 = c.from-b.ensures ∙ there.1 0 in
    let last = rest_last c.args.s.now c.args.at l.value l.scale l.next (5 - l.counter) (omega arith) c.from-b.result byte there.0 c.if-b-lt128.true in
    let e : number_at c.args.s.now c.args.at ≡ illegible 3 = l.invariant.same ∙ last ∙ elim c.then-v-gt-LARGEST.branch [
      | then-v-gt-LARGEST-via-then-v-gt-LARGEST w ↦ judged_large 0 _ _ 0 _ w.if-v-gt-LARGEST.true
      | then-v-gt-LARGEST-via-else-v-gt-LARGEST+then-at-next w ↦ judged_zero _ _ _ _ (omega arith) w.if-at-next.true.1 w.if-v-gt-LARGEST.false
    ] in
    rw (c.at-then-v-gt-LARGEST.ensures, e)

pub returns-then-b-lt128 : goal.returns-then-b-lt128
returns-then-b-lt128 c =
    let l = c.loop in
    let there = c.in-Some.ensures.lookup.3 in
    let byte : c.from-b.result ≡ get_or c.args.s.now l.next 0 = c.from-b.ensures ∙ there.1 0 in
    let last = rest_last c.args.s.now c.args.at l.value l.scale l.next (5 - l.counter) (omega arith) c.from-b.result byte there.0 c.if-b-lt128.true in
    let e : number_at c.args.s.now c.args.at ≡ numeral (l.value + c.from-b.result * l.scale) (l.next + 1) =
    l.invariant.same ∙ last ∙ elim c.if-at-next.either [
      | inl z ↦ judged_first _ _ _ _ z.1 c.if-v-gt-LARGEST.false
      | inr ne ↦ judged_some _ _ _ _ ne c.if-v-gt-LARGEST.false
    ] in
    rw e

pub overflow_mul-value : goal.overflow_mul-value
overflow_mul-value c =
    let fits : c.from-b.result < 256 = rw (c.from-b.ensures, c.in-Some.ensures.lookup.3.1 0) (c.type_inv.s c.loop.next).fits in
    omega (arith, room _ _ (c.from-b.result - 128) (omega arith) c.loop.invariant.worth (omega arith))

pub overflow_add-value : goal.overflow_add-value
overflow_add-value c =
    let fits : c.from-b.result < 256 = rw (c.from-b.ensures, c.in-Some.ensures.lookup.3.1 0) (c.type_inv.s c.loop.next).fits in
    omega (arith, room _ _ (c.from-b.result - 128) (omega arith) c.loop.invariant.worth (omega arith))

pub overflow_mul-scale : goal.overflow_mul-scale
overflow_mul-scale c = omega (arith, room _ _ 0 (omega arith) c.loop.invariant.worth (omega arith))

pub loop-preserved : goal.loop-preserved
loop-preserved c =
    let l = c.loop in
    let there = c.in-Some.ensures.lookup.3 in
    let byte : c.from-b.result ≡ get_or c.args.s.now l.next 0 = c.from-b.ensures ∙ there.1 0 in
    let fits : c.from-b.result < 256 = rw byte (c.type_inv.s l.next).fits in
    let left : 5 - l.counter - 1 ≡ 5 - (l.counter + 1) = omega arith in
    let more =
    rest_more c.args.s.now c.args.at l.value l.scale l.next (5 - l.counter) (omega arith) c.from-b.result byte l.invariant.on there.0 c.if-b-lt128.false fits in
    record {
      on = omega arith;
      small = sum_small l.value (c.from-b.result - 128) l.scale (omega arith) l.invariant.small;
      worth = scale_next _ _ l.invariant.worth;
      same = l.invariant.same ∙ rw (← left) more;
    }

pub returns : goal.returns
returns c =
    let l = c.loop in
    let e : number_at c.args.s.now c.args.at ≡ illegible 3 = l.invariant.same ∙ rest_long _ _ l.value l.scale l.next (5 - l.counter) (omega arith) in
    rw (c.at-2.ensures, e)
