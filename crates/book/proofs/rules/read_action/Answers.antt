-- Paths into the laws of ActionSteps.
use Rattle.std.proofs.Common.{◌∙◌, arith}
use Rattle.std.proofs.lemmas.Result.{err_from_is_err_and}
use Rattle.book.proofs.ActionSteps.{action_refused, action_chosen, action_none}
use Rattle.book.proofs.rules.read_action.Goals as goal

pub returns-in_err-number : goal.returns-in_err-number
returns-in_err-number c =
    let p = err_from_is_err_and c.from_residual.result c.from_residual.ensures.1 in
    rw (p.1, p.2) (action_refused _ _ _ _ _ c.in_err-number.ensures)

pub returns-in-0 : goal.returns-in-0
returns-in-0 c = action_chosen _ _ _ _ c.in_ok-number.ensures 0 c.in-0.is

pub returns-in-1 : goal.returns-in-1
returns-in-1 c = action_chosen _ _ _ _ c.in_ok-number.ensures 1 c.in-1.is

pub returns-in-2 : goal.returns-in-2
returns-in-2 c = action_chosen _ _ _ _ c.in_ok-number.ensures 2 c.in-2.is

pub returns-in-3 : goal.returns-in-3
returns-in-3 c = action_chosen _ _ _ _ c.in_ok-number.ensures 3 c.in-3.is

pub returns-in-4 : goal.returns-in-4
returns-in-4 c = action_chosen _ _ _ _ c.in_ok-number.ensures 4 c.in-4.is

pub returns-in-5 : goal.returns-in-5
returns-in-5 c = action_chosen _ _ _ _ c.in_ok-number.ensures 5 c.in-5.is

pub returns-in-6 : goal.returns-in-6
returns-in-6 c rules sources = c.read_called.ensures rules sources ∙ action_chosen _ _ _ _ c.in_ok-number.ensures 6 c.in-6.is rules sources

pub returns-in_default : goal.returns-in_default
returns-in_default c = rw c.at.ensures (action_none _ _ _ _ c.in_ok-number.ensures (omega arith))
