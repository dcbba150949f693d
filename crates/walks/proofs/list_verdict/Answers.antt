-- The loop over the list's rules: whatever list is in the words, the verdict of the rest is the verdict of all. Assumes nothing.
use Rattle.std.proofs.Common.{subst, sym}
use Rattle.matching.specs.Conditions.{WrittenAs}
use Rattle.walks.proofs.Lists.{rest_all, rest_none, front, front_taken, front_left, conditions_seen}
use Rattle.walks.proofs.list_verdict.Goals as goal

pub loop-rest-init : goal.loop-rest-init
loop-rest-init c = λ list l. rest_all _ _ _ _ list l

pub split_at-requires : goal.split_at-requires
split_at-requires c = let p = c.requires in
    (front _ _ _ _ p.list c.in-len3-up.len_at_least (c.loop-rest.invariant p.list p.lists)).room

pub eval_conditions-held-requires : goal.eval_conditions-held-requires
eval_conditions-held-requires c =
    let p = c.requires in
    let f = front _ _ _ _ p.list c.in-len3-up.len_at_least (c.loop-rest.invariant p.list p.lists) in
    record { conditions = f.rule.conditions; are = subst (λ ws. WrittenAs c.args.s.now ws f.rule.conditions) (sym c.split_at.ensures.front) f.written }

pub returns-then-takes : goal.returns-then-takes
returns-then-takes c = λ list l.
    let a = c.args in let h = c.eval_conditions-held in
    let f = front _ _ _ _ list c.in-len3-up.len_at_least (c.loop-rest.invariant list l) in
    front_taken f h.result
    (conditions_seen a.s.now a.answers.now _ a.p a.told c.asking-asking.result c.asking-asking.ensures h.result h.ensures f.rule
    (subst (λ ws. WrittenAs a.s.now ws f.rule.conditions) (sym c.split_at.ensures.front) f.written))
    c.takes.result c.takes.ensures c.if-takes.true

pub loop-rest-preserved : goal.loop-rest-preserved
loop-rest-preserved c = λ list l.
    let a = c.args in let h = c.eval_conditions-held in
    let f = front _ _ _ _ list c.in-len3-up.len_at_least (c.loop-rest.invariant list l) in
    rw c.split_at.ensures.back (front_left f h.result
    (conditions_seen a.s.now a.answers.now _ a.p a.told c.asking-asking.result c.asking-asking.ensures h.result h.ensures f.rule
    (subst (λ ws. WrittenAs a.s.now ws f.rule.conditions) (sym c.split_at.ensures.front) f.written))
    c.takes.result c.takes.ensures c.if-takes.false)

pub returns : goal.returns
returns c = λ list l. rw c.number.ensures (rest_none _ _ _ _ list c.in_default.len_below (c.loop-rest.invariant list l))
