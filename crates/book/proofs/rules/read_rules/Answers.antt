-- Some rules were read and noted, and with what is still to be read they are all.
use Rattle.std.proofs.Common.{arith}
use Rattle.std.proofs.lemmas.Result.{err_from_is_err_and}
use Rattle.book.proofs.RuleSteps.{rules_begin, rules_next, rules_refused, rules_end}
use Rattle.book.proofs.rules.read_rules.Goals as goal

pub loop-slot-init : goal.loop-slot-init
loop-slot-init c first rules = rules_begin _ _ _ _ _ _ _ _

pub returns-in_err-rule-clause-answer : goal.returns-in_err-rule-clause-answer
returns-in_err-rule-clause-answer c first rules =
    let p = err_from_is_err_and c.from_residual.result c.from_residual.ensures.1 in
    rw (p.1, p.2) (rules_refused _ _ _ _ _ _ _ _ _ _ (c.loop-slot.invariant first rules) (omega arith) _ _ c.in_err-rule.ensures c.args.slots.now).0

pub returns-in_err-rule-clause-held : goal.returns-in_err-rule-clause-held
returns-in_err-rule-clause-held c first rules =
    (rules_refused _ _ _ _ _ _ _ _ _ _ (c.loop-slot.invariant first rules) (omega arith) _ _ c.in_err-rule.ensures _).1

pub loop-slot-preserved : goal.loop-slot-preserved
loop-slot-preserved c first rules = rules_next _ _ _ _ _ _ _ _ _ _ (c.loop-slot.invariant first rules) (omega arith) (omega arith) _ c.in_ok-rule.ensures

pub returns : goal.returns
returns c = record {
  answer = λ first rules. (rules_end _ _ _ _ _ _ _ _ _ _ (c.loop-slot.invariant first rules) (omega arith) (omega arith)).0;
  held = λ first rules. (rules_end _ _ _ _ _ _ _ _ _ _ (c.loop-slot.invariant first rules) (omega arith) (omega arith)).1;
}
