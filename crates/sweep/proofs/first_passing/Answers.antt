-- `sweep::first_passing` meets its contract. The invariant: of whatever set and conditions are there, none may pass below some source, and the
-- ranges that are left lie ahead. Assumes nothing.
use Rattle.std.proofs.Common.{◌-◌, ◌≤◌, ◌<◌, [], ◌∷◌, ◌∙◌, arith, length, take, length-append}
use Rattle.std.proofs.lemmas.List.{get_or-take, length-take-le}
use Rattle.std.proofs.lemmas.Slice.Zip.{zip_turn, zip_end}
use Rattle.model.specs.Limits.{spans_most}
use Rattle.model.specs.Spans.{minus}
use Rattle.model.specs.Review.{split_conditions}
use Rattle.suspects.proofs.Told.{slots_listed}
use Rattle.sweep.specs.Sweep.{passes}
use Rattle.sweep.proofs.Walk.{passing, sought_all, sought_found, sought_next, sought_end}
use Rattle.sweep.proofs.first_passing.Goals as goal

pub split_at-requires : goal.split_at-requires
split_at-requires c = let l = c.requires.kept.slots in omega (arith, l.fits, l.count)

pub split_at-requires-2 : goal.split_at-requires-2
split_at-requires-2 c = let l = c.requires.kept.slots in omega (arith, l.fits, l.count)

pub loop-low-init : goal.loop-low-init
loop-low-init c cs w ss top r l = let a = c.args in let s = a.suspects.now in
    sought_all spans_most ss top s.low s.high (minus ss (split_conditions a.port cs).false) (passes a.port cs) (passing a.port cs top ss r)
    0 (s.count - 0) r (omega (arith, l.count)) (slots_listed spans_most ss s.count s.low s.high l)

pub returns-in-Some-first_in : goal.returns-in-Some-first_in
returns-in-Some-first_in c cs w ss top r l =
    let a = c.args in
    let s = a.suspects.now in
    let lo = c.loop-low in
    let g = lo.invariant cs w ss top r l in
    let t = zip_turn (take s.count s.low) (take s.count s.high) lo.yielded c.into_iter-low-iterator.result lo.low-iterator c.next.new.self c.next.result (cc) (cc)
    lo.yielded_by _ c.in-Some.is c.next.ensures.steps in
    let k : length lo.yielded < s.count = omega (arith, t.0, length-take-le s.count s.low (omega (arith, l.fits, l.count))) in
    let from = t.2 0 ∙ get_or-take s.count s.low (length lo.yielded) 0 k in
    let to = t.3 0 ∙ get_or-take s.count s.high (length lo.yielded) 0 k in
    let n = c.in-Some-first_in.ensures in
    sought_found _ _ _ _ _ _ _ _ _ _ g (omega arith) _ _ from to n.fits _ (n.first cs w)

pub loop-low-preserved : goal.loop-low-preserved
loop-low-preserved c cs w ss top r l =
    let a = c.args in
    let s = a.suspects.now in
    let lo = c.loop-low in
    let g = lo.invariant cs w ss top r l in
    let t = zip_turn (take s.count s.low) (take s.count s.high) lo.yielded c.into_iter-low-iterator.result lo.low-iterator c.next.new.self c.next.result (cc) (cc)
    lo.yielded_by _ c.in-Some.is c.next.ensures.steps in
    let k : length lo.yielded < s.count = omega (arith, t.0, length-take-le s.count s.low (omega (arith, l.fits, l.count))) in
    let from = t.2 0 ∙ get_or-take s.count s.low (length lo.yielded) 0 k in
    let to = t.3 0 ∙ get_or-take s.count s.high (length lo.yielded) 0 k in
    rw (length-append lo.yielded ((c.in-Some.field-0-0, c.in-Some.field-0-1) ∷ []))
    (sought_next _ _ _ _ _ _ _ _ _ _ g (omega arith) _ _ from to c.first_in.ensures.fits _ (omega arith) (c.in_default.ensures.first cs w))

pub returns : goal.returns
returns c cs w ss top r l =
    let a = c.args in
    let s = a.suspects.now in
    let lo = c.loop-low in
    let e = zip_end (take s.count s.low) (take s.count s.high) lo.yielded c.into_iter-low-iterator.result lo.low-iterator c.next.new.self c.next.result (cc) (cc)
    lo.yielded_by c.in-None.is c.next.ensures.steps in
    let all : s.count - length lo.yielded ≤ 0 =
    omega (arith, e, length-take-le s.count s.low (omega (arith, l.fits, l.count)), length-take-le s.count s.high (omega (arith, l.fits, l.count))) in
    sought_end _ _ _ _ _ _ _ _ _ _ (lo.invariant cs w ss top r l) all
