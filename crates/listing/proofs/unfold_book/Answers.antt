-- `listing::unfold_book` meets its contract: the check of the book, and then its list. Assumes nothing.
use Rattle.std.proofs.lemmas.Result.{err_from_is_err_and}
use Rattle.checking.proofs.Uses.{from_ok, from_err}
use Rattle.listing.proofs.Laws.{entry_refused, entry_answers}
use Rattle.listing.proofs.unfold_book.Goals as goal

pub returns-in_err-checked : goal.returns-in_err-checked
returns-in_err-checked c =
    let p = err_from_is_err_and c.from_residual.result c.from_residual.ensures.1 in
    let both = entry_refused c.args.book.now _ _ (from_err _ _ c.check.ensures _ c.in_err-checked.was) c.args.words.now in
    rw (p.1, p.2) (record { answer = both.0; lent = both.1 })

pub returns : goal.returns
returns c =
    let f = from_ok c.args.book.now _ c.check.ensures _ c.in_ok-checked.was in
    let r = c.list_book in
    let both = entry_answers c.args.book.now f.book f.read c.args.words.now r.result r.new.words (r.ensures _ f.book f.read f) in
    record { answer = both.0; lent = both.1 }
