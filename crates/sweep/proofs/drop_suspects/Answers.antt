-- `sweep::drop_suspects` meets its contract. The invariant: of whatever set and conditions are there, what is left below some source is held, and
-- the ranges that are left lie ahead. Assumes nothing.
use Rattle.std.proofs.Common.{◌+◌, ◌-◌, ◌≤◌, ◌<◌, [], ◌∷◌, ◌∙◌, arith, length, take, length-append}
use Rattle.std.proofs.lemmas.List.{get_or-take, length-take-le}
use Rattle.std.proofs.lemmas.Result.{err_from_is_err_and}
use Rattle.std.proofs.lemmas.Slice.Zip.{zip_turn, zip_end}
use Rattle.model.specs.Limits.{spans_most}
use Rattle.model.specs.Spans.{minus}
use Rattle.model.specs.Review.{split_conditions}
use Rattle.suspects.specs.Build.{HeldIn, NoRoom}
use Rattle.suspects.proofs.Told.{slots_listed}
use Rattle.suspects.proofs.Ahead.{hand}
use Rattle.sweep.specs.Sweep.{stays}
use Rattle.sweep.proofs.Walk.{dropped, swept_all, swept_step, swept_next, swept_full, swept_end}
use Rattle.sweep.proofs.drop_suspects.Goals as goal

pub split_at-requires : goal.split_at-requires
split_at-requires c = let l = c.requires.kept.slots in omega (arith, l.fits, l.count)

pub split_at-requires-2 : goal.split_at-requires-2
split_at-requires-2 c = let l = c.requires.kept.slots in omega (arith, l.fits, l.count)

pub loop-low-init : goal.loop-low-init
loop-low-init c cs w ss top r l = let a = c.args in let s = a.suspects.now in let left = c.empty-left.result in
    swept_all spans_most ss top s.low s.high (minus ss (split_conditions a.port cs).true) (stays a.port cs) (dropped a.port cs top ss r)
    0 (s.count - 0) left.count left.low left.high r (omega (arith, l.count)) (slots_listed spans_most ss s.count s.low s.high l) c.empty-left.ensures

pub keep_range-requires-clause-filled : goal.keep_range-requires-clause-filled
keep_range-requires-clause-filled c = let k = c.requires.kept in
    let held = (c.loop-low.invariant c.requires.written.conditions c.requires.written.are k.spans k.top k.rising k.slots).held in
    record { spans = held.spans; slots = held.slots }

pub keep_range-requires-clause-rising : goal.keep_range-requires-clause-rising
keep_range-requires-clause-rising c =
    let q = c.requires.kept in
    let l = q.slots in
    let a = c.args in
    let s = a.suspects.now in
    let lo = c.loop-low in
    let g = lo.invariant c.requires.written.conditions c.requires.written.are q.spans q.top q.rising l in
    let t = zip_turn (take s.count s.low) (take s.count s.high) lo.yielded c.into_iter-low-iterator.result lo.low-iterator c.next.new.self c.next.result (cc) (cc)
    lo.yielded_by _ c.in-Some.is c.next.ensures.steps in
    let k : length lo.yielded < s.count = omega (arith, t.0, length-take-le s.count s.low (omega (arith, l.fits, l.count))) in
    let from = t.2 0 ∙ get_or-take s.count s.low (length lo.yielded) 0 k in
    let to = t.3 0 ∙ get_or-take s.count s.high (length lo.yielded) 0 k in
    (hand _ _ _ _ _ _ _ g.onward (omega arith) _ _ from to).order

pub returns-in_err-keep_range : goal.returns-in_err-keep_range
returns-in_err-keep_range c =
    let a = c.args in
    let s = a.suspects.now in
    let lo = c.loop-low in
    let t = zip_turn (take s.count s.low) (take s.count s.high) lo.yielded c.into_iter-low-iterator.result lo.low-iterator c.next.new.self c.next.result (cc) (cc)
    lo.yielded_by _ c.in-Some.is c.next.ensures.steps in
    λ cs w ss top r l.
    let g = lo.invariant cs w ss top r l in
    let k : length lo.yielded < s.count = omega (arith, t.0, length-take-le s.count s.low (omega (arith, l.fits, l.count))) in
    let from = t.2 0 ∙ get_or-take s.count s.low (length lo.yielded) 0 k in
    let to = t.3 0 ∙ get_or-take s.count s.high (length lo.yielded) 0 k in
    let n = c.in_err-keep_range.ensures in
    let p = err_from_is_err_and c.from_residual.result c.from_residual.ensures.1 in
    rw p.1 (swept_full _ _ _ _ _ _ _ _ _ _ _ _ _ g (omega arith) _ _ from to n.fits
    (swept_step _ _ _ _ _ _ _ _ _ _ _ _ _ g (omega arith) _ _ from to n.fits (λ P. NoRoom spans_most P (c.in-Some.field-0-1.now + 1)) (n.grown cs w)))

pub loop-low-preserved : goal.loop-low-preserved
loop-low-preserved c =
    let a = c.args in
    let s = a.suspects.now in
    let lo = c.loop-low in
    let t = zip_turn (take s.count s.low) (take s.count s.high) lo.yielded c.into_iter-low-iterator.result lo.low-iterator c.next.new.self c.next.result (cc) (cc)
    lo.yielded_by _ c.in-Some.is c.next.ensures.steps in
    λ cs w ss top r l.
    let g = lo.invariant cs w ss top r l in
    let k : length lo.yielded < s.count = omega (arith, t.0, length-take-le s.count s.low (omega (arith, l.fits, l.count))) in
    let from = t.2 0 ∙ get_or-take s.count s.low (length lo.yielded) 0 k in
    let to = t.3 0 ∙ get_or-take s.count s.high (length lo.yielded) 0 k in
    let n = c.in_ok-keep_range.ensures in
    rw (length-append lo.yielded ((c.in-Some.field-0-0, c.in-Some.field-0-1) ∷ []))
    (swept_next _ _ _ _ _ _ _ _ _ _ _ _ _ g (omega arith) _ _ from to n.fits _ _ _ _ (omega arith)
    (swept_step _ _ _ _ _ _ _ _ _ _ _ _ _ g (omega arith) _ _ from to n.fits
    (λ P. HeldIn P (c.in-Some.field-0-1.now + 1) c.keep_range.new.left) (n.grown cs w)))

pub returns : goal.returns
returns c cs w ss top r l =
    let a = c.args in
    let s = a.suspects.now in
    let lo = c.loop-low in
    let e = zip_end (take s.count s.low) (take s.count s.high) lo.yielded c.into_iter-low-iterator.result lo.low-iterator c.next.new.self c.next.result (cc) (cc)
    lo.yielded_by c.in-None.is c.next.ensures.steps in
    let all : s.count - length lo.yielded ≤ 0 =
    omega (arith, e, length-take-le s.count s.low (omega (arith, l.fits, l.count)), length-take-le s.count s.high (omega (arith, l.fits, l.count))) in
    swept_end _ _ _ _ _ _ _ _ _ _ _ _ _ (lo.invariant cs w ss top r l) all
