-- `review::whole::review` meets its contract: the start, and then the review of the list. Assumes nothing.
use Rattle.std.proofs.Common.{sym}
use Rattle.std.proofs.lemmas.List.{length-take-le}
use Rattle.std.proofs.lemmas.Result.{err_from_is_err_and}
use Rattle.review.proofs.Reviewing.{whole_refused, words_fit, reviewable, whole_answers}
use Rattle.review.proofs.whole.review.Goals as goal

pub returns-in_err-started : goal.returns-in_err-started
returns-in_err-started c =
    let a = c.args in
    let p = err_from_is_err_and c.from_residual.result c.from_residual.ensures.1 in
    let h = whole_refused a.book.now a.plan.now a.port a.words.now _ _ c.start.ensures _ c.in_err-started.was in
    record { answer = rw (p.1, p.2) h.0; lent = h.1 }

pub slice_bounds-list-end : goal.slice_bounds-list-end
slice_bounds-list-end c = let a = c.args in words_fit a.book.now a.plan.now a.port a.words.now _ _ c.start.ensures _ c.in_ok-started.was

pub slice_bounds-list-end-2 : goal.slice_bounds-list-end-2
slice_bounds-list-end-2 c =
    let a = c.args in
    let fits = words_fit a.book.now a.plan.now a.port a.words.now _ _ c.start.ensures _ c.in_ok-started.was in
    sym (length-take-le _ _ fits)

pub review_list-requires : goal.review_list-requires
review_list-requires c = let a = c.args in reviewable a.book.now a.plan.now a.port a.words.now _ _ c.start.ensures _ c.in_ok-started.was

pub returns : goal.returns
returns c =
    let a = c.args in
    let h = whole_answers a.book.now a.plan.now a.port a.words.now _ _ c.start.ensures _ c.in_ok-started.was _ c.review_list.ensures in
    record { answer = h.0; lent = h.1 }
