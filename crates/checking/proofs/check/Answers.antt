-- `checking::check` meets its contract: the book as it was read, and then the check of its calls. Assumes nothing.
use Rattle.std.proofs.lemmas.Result.{err_from_is_err_and}
use Rattle.checking.proofs.Whole.{read_to, read_refused, shape, charted, checks_refused, checks_pass}
use Rattle.checking.proofs.check.Goals as goal

pub returns-in_err-contents : goal.returns-in_err-contents
returns-in_err-contents c =
    let p = err_from_is_err_and c.from_residual.result c.from_residual.ensures.1 in
    rw (p.1, p.2) (read_refused _ _ c.read_book.ensures _ c.in_err-contents.was)

pub rank_calls-requires : goal.rank_calls-requires
rank_calls-requires c = shape (read_to _ _ c.read_book.ensures _ c.in_ok-contents.was)

pub returns-in-Err : goal.returns-in-Err
returns-in-Err c =
    let t = read_to _ _ c.read_book.ensures _ c.in_ok-contents.was in
    checks_refused t _ _ (c.rank_calls.ensures t.book t.stand (charted t)) c.in-Err.is

pub returns : goal.returns
returns c =
    let t = read_to _ _ c.read_book.ensures _ c.in_ok-contents.was in
    checks_pass t _ _ (c.rank_calls.ensures t.book t.stand (charted t)) c.in-Ok.is
