-- `verdicts::by_list` meets its contract: the list, and then its verdict. Assumes nothing.
use Rattle.std.proofs.Common.{sym}
use Rattle.std.proofs.lemmas.List.{length-take-le}
use Rattle.std.proofs.lemmas.Result.{err_from_is_err_and}
use Rattle.listing.proofs.Laws.{listed_ok, listed_err}
use Rattle.verdicts.proofs.Laws.{can_list, listed_room, can_judge, decides_list, decides_short}
use Rattle.verdicts.proofs.by_list.Goals as goal

pub list_book-requires : goal.list_book-requires
list_book-requires c = can_list c.requires

pub returns-in_err-need : goal.returns-in_err-need
returns-in_err-need c = λ b e.
    let a = c.args in
    let p = err_from_is_err_and c.from_residual.result c.from_residual.ensures.1 in
    rw (p.1, p.2)
    (decides_short b _ _ _ (listed_err b _ _ _ (c.list_book.ensures _ b e c.requires) _ c.in_err-need.was) a.told a.tactic a.answers.now a.p)

pub slice_bounds-list_verdict-end : goal.slice_bounds-list_verdict-end
slice_bounds-list_verdict-end c =
    let o = c.requires in listed_room (listed_ok o.book _ _ _ (c.list_book.ensures _ o.book o.read o) _ c.in_ok-need.was)

pub slice_bounds-list_verdict-end-2 : goal.slice_bounds-list_verdict-end-2
slice_bounds-list_verdict-end-2 c =
    let o = c.requires in sym (length-take-le _ _ (listed_room (listed_ok o.book _ _ _ (c.list_book.ensures _ o.book o.read o) _ c.in_ok-need.was)))

pub list_verdict-action-requires : goal.list_verdict-action-requires
list_verdict-action-requires c =
    let o = c.requires in can_judge (listed_ok o.book _ _ _ (c.list_book.ensures _ o.book o.read o) _ c.in_ok-need.was) _ o.read

pub returns : goal.returns
returns c = λ b e.
    let a = c.args in
    decides_list (listed_ok b _ _ _ (c.list_book.ensures _ b e c.requires) _ c.in_ok-need.was) _ e a.told a.tactic a.answers.now a.p
    _ c.list_verdict-action.ensures _ c.of.ensures
