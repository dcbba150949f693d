-- Some chains were read and charted, and with what is still to be read they are all.
use Rattle.std.proofs.Common.{refl, arith}
use Rattle.std.proofs.lemmas.Result.{err_from_is_err_and}
use Rattle.book.proofs.ChainSteps.{chains_begin, chains_end, count_refused, more_room, rules_refused, rules_got}
use Rattle.book.proofs.chains.read_chains.Goals as goal

pub loop-c-init : goal.loop-c-init
loop-c-init c = chains_begin _ _ _ c.requires.2

pub overflow_sub-first : goal.overflow_sub-first
overflow_sub-first c = omega (arith, c.loop-c.invariant.room)

pub returns-in_err-count : goal.returns-in_err-count
returns-in_err-count c =
    let p = err_from_is_err_and c.from_residual.result c.from_residual.ensures.1 in
    let so = count_refused _ _ _ _ _ _ c.loop-c.invariant (omega arith) _ _ c.in_err-count.ensures _ in
    record { answer = rw (p.1, p.2) so.0; charted = so.1 }

pub overflow_add-last : goal.overflow_add-last
overflow_add-last c = let r = more_room _ _ _ _ _ _ c.loop-c.invariant (omega arith) _ c.in_ok-count.ensures in omega arith

pub offset_bounds-contents-first : goal.offset_bounds-contents-first
offset_bounds-contents-first c = omega (arith, c.loop-c.invariant.room)

pub slice_bounds-read_rules-end : goal.slice_bounds-read_rules-end
slice_bounds-read_rules-end c = let r = more_room _ _ _ _ _ _ c.loop-c.invariant (omega arith) _ c.in_ok-count.ensures in omega arith

pub overflow_cast-contents : goal.overflow_cast-contents
overflow_cast-contents c = let r = more_room _ _ _ _ _ _ c.loop-c.invariant (omega arith) _ c.in_ok-count.ensures in omega arith

pub returns-in_err-read : goal.returns-in_err-read
returns-in_err-read c =
    let p = err_from_is_err_and c.from_residual-in_err-read.result c.from_residual-in_err-read.ensures.1 in
    let so = rules_refused _ _ _ _ _ _ c.loop-c.invariant (omega arith) _ c.in_ok-count.ensures _ (omega arith) _ _ c.in_err-read.ensures.answer _ in
    record { answer = rw (p.1, p.2) so.0; charted = so.1 }

pub loop-c-preserved : goal.loop-c-preserved
loop-c-preserved c =
    rules_got _ _ _ _ _ _ c.loop-c.invariant (omega arith) _ c.in_ok-count.ensures (omega (arith, c.requires))
    _ _ refl (omega arith) _ c.in_ok-read.ensures.answer _ c.read_rules.ensures.held

pub returns : goal.returns
returns c =
    let so = chains_end _ _ _ _ _ _ c.loop-c.invariant (omega arith) in
    record { answer = so.0; charted = so.1 }
