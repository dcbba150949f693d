-- `review::whole::review_list` meets its contract. The invariant: the review of the rest, with the suspects in the slots, is the review of all. Assumes nothing.
use Rattle.std.proofs.Common.{◌∙◌, ap, arith, Ok}
use Rattle.review.proofs.Listing.{rest_all, rest_kept, rest_none, front, front_refuses, front_fits, front_left}
use Rattle.review.proofs.whole.review_list.Goals as goal

pub loop-at-init : goal.loop-at-init
loop-at-init c = λ x. rest_all x

pub take_rule-requires-clause-stands : goal.take_rule-requires-clause-stands
take_rule-requires-clause-stands c = let f = front c.requires (c.loop-at.invariant c.requires) c.loop-at-test.true in record { rule = f.rule; stands = f.stands }

pub take_rule-requires-clause-kept : goal.take_rule-requires-clause-kept
take_rule-requires-clause-kept c = rest_kept c.requires (c.loop-at.invariant c.requires)

pub bounds-list-at : goal.bounds-list-at
bounds-list-at c = let f = front c.requires (c.loop-at.invariant c.requires) c.loop-at-test.true in omega (arith, f.stands.room)

pub loop-at-preserved : goal.loop-at-preserved
loop-at-preserved c = λ x. let l = c.loop-at.invariant x in front_left x l (front x l c.loop-at-test.true) _ _ c.take_rule.ensures (c.in-Ok-None.is ∙ ap Ok c.in-Ok-None.field-0-is)

pub returns-in-Ok-Some : goal.returns-in-Ok-Some
returns-in-Ok-Some c = λ x.
    let l = c.loop-at.invariant x in front_refuses x l (front x l c.loop-at-test.true) _ _ c.take_rule.ensures _ _ (c.in-Ok-Some.is ∙ ap Ok c.in-Ok-Some.field-0-is)

pub unreachable-requires : goal.unreachable-requires
unreachable-requires c = let l = c.loop-at.invariant c.requires in front_fits c.requires l (front c.requires l c.loop-at-test.true) _ _ c.take_rule.ensures _ c.in-Err.is

pub returns : goal.returns
returns c = λ x. rest_none x (c.loop-at.invariant x) c.loop-at-test.false
