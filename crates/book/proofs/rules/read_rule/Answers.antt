-- Paths into the laws of RuleSteps.
use Rattle.std.proofs.Common.{arith}
use Rattle.std.proofs.lemmas.Result.{err_from_is_err_and}
use Rattle.book.proofs.RuleSteps.{match_bad, rule_got, rule_inside}
use Rattle.book.proofs.rules.read_rule.Goals as goal

pub returns-in_err-end : goal.returns-in_err-end
returns-in_err-end c =
    let p = err_from_is_err_and c.from_residual-in_err-end.result c.from_residual-in_err-end.ensures.1 in
    rw (p.1, p.2) (match_bad _ _ _ _ _ c.in_ok-action.ensures _ _ c.in_err-end.ensures)

pub overflow_cast-result : goal.overflow_cast-result
overflow_cast-result c = let h = rule_inside _ _ _ _ _ c.in_ok-action.ensures _ c.in_ok-end.ensures in omega (arith, c.requires)

pub overflow_cast-result-2 : goal.overflow_cast-result-2
overflow_cast-result-2 c = let h = rule_inside _ _ _ _ _ c.in_ok-action.ensures _ c.in_ok-end.ensures in omega (arith, c.requires)

pub overflow_cast-result-3 : goal.overflow_cast-result-3
overflow_cast-result-3 c = let h = rule_inside _ _ _ _ _ c.in_ok-action.ensures _ c.in_ok-end.ensures in omega (arith, c.requires)

pub returns : goal.returns
returns c = rule_got _ _ _ _ _ c.in_ok-action.ensures _ c.in_ok-end.ensures
