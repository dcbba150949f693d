-- `reviewer::tannenlaut_check` meets its contract: the check, in words. Assumes nothing.
use Rattle.std.proofs.Common.{◌∙◌}
use Rattle.reviewer.proofs.Laws.{check_refused, check_fine}
use Rattle.reviewer.proofs.books.tannenlaut_check.Goals as goal

pub returns-in-Ok : goal.returns-in-Ok
returns-in-Ok c = c.given.ensures ∙ rw (c.word.ensures, c.word-in-Ok.ensures) (check_fine _ c.check.result c.check.ensures _ c.in-Ok.is)

pub returns-in-Err : goal.returns-in-Err
returns-in-Err c = c.refused.ensures ∙ check_refused _ c.check.result c.check.ensures _ c.in-Err.is
