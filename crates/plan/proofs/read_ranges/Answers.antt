-- `plan::read_ranges` meets its contract. The loop's invariant: to write the ranges that are left is to write all. Assumes nothing.
use Rattle.std.specs.Prelude.{Ok, Err}
use Rattle.std.proofs.Common.{◌≡◌, suc, ◌+◌, ◌-◌, ◌<◌, length, arith, rules}
use Rattle.std.proofs.lemmas.Result.{err_from_is_err_and}
use Rattle.plan.specs.Contents.{slots}
use Rattle.plan.proofs.Ranges.{ranges_none, ranges_low, ranges_high, ranges_more}
use Rattle.plan.proofs.read_ranges.Goals as goal

pub loop-i-init : goal.loop-i-init
loop-i-init c =
    let e : c.args.to + c.args.count - c.args.to ≡ c.args.count = omega arith in
    λ r k h. rw e at h

pub returns-in_err-low : goal.returns-in_err-low
returns-in_err-low c =
    let more : c.args.to + c.args.count - c.loop-i.i ≡ suc (c.args.to + c.args.count - (c.loop-i.i + 1)) = omega arith in
    let p = err_from_is_err_and c.from_residual.result c.from_residual.ensures.1 in
    rw p.1 (c.loop-i.invariant (Err p.0) c.loop-i.contents (rw p.2 (ranges_low _ c.loop-i.contents c.loop-i.i c.loop-i.contents _ _ more _ _ _ c.in_err-low.ensures)))

pub returns-in_err-high : goal.returns-in_err-high
returns-in_err-high c =
    let more : c.args.to + c.args.count - c.loop-i.i ≡ suc (c.args.to + c.args.count - (c.loop-i.i + 1)) = omega arith in
    let p = err_from_is_err_and c.from_residual-in_err-high.result c.from_residual-in_err-high.ensures.1 in
    rw p.1 (c.loop-i.invariant (Err p.0) c.loop-i.contents (rw p.2
    (ranges_high _ c.loop-i.contents c.loop-i.i c.loop-i.contents _ _ more _ _ _ c.in_ok-low.ensures _ (rw c.from.ensures at c.in_err-high.ensures))))

pub loop-i-preserved : goal.loop-i-preserved
loop-i-preserved c =
    let more : c.args.to + c.args.count - c.loop-i.i ≡ suc (c.args.to + c.args.count - (c.loop-i.i + 1)) = omega arith in
    let low : length c.loop-i.contents.low ≡ slots = search rules in
    let high : length c.loop-i.contents.high ≡ slots = search rules in
    let in-low : c.loop-i.i < length c.loop-i.contents.low = omega (arith, low) in
    let in-high : c.loop-i.i < length c.loop-i.contents.high = omega (arith, high) in
    λ r k h. c.loop-i.invariant r k
    (ranges_more _ _ _ _ _ _ more _ _ _ c.in_ok-low.ensures _ (rw c.from.ensures at c.in_ok-high.ensures) in-low in-high r (rw c.from-least.ensures at h))

pub returns : goal.returns
returns c =
    let none : c.args.to + c.args.count - c.loop-i.i ≡ 0 = omega arith in
    c.loop-i.invariant (Ok c.loop-i.next) c.loop-i.contents (ranges_none c.args.s.now c.loop-i.contents c.loop-i.i _ c.loop-i.least c.loop-i.next none)
