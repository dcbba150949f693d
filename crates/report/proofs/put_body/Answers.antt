-- The book, the plan and the list, each read or refused; and then the counts and the ports.
use Rattle.std.specs.Prelude.{Ok, Err}
use Rattle.std.proofs.Common.{length, ap, refl, arith}
use Rattle.std.proofs.lemmas.Result.{err_from_is_err_and}
use Rattle.checking.proofs.Uses.{from_ok, from_err}
use Rattle.plan.proofs.Charted.{answer_fine, answer_refused}
use Rattle.listing.proofs.Laws.{listed_ok, listed_err}
use Rattle.text.proofs.Appends.{length_both}
use Rattle.report.proofs.Lengths.{counts_short}
use Rattle.report.proofs.Parts.{total_told, list_is, book_refused, plan_refused, room_refused, body_refused, words_refused, words_filled, body_put}
use Rattle.report.proofs.put_body.Goals as goal

pub returns-in_err-checked : goal.returns-in_err-checked
returns-in_err-checked c =
    let p = err_from_is_err_and c.from_residual.result c.from_residual.ensures.1 in
    let u = c.in_err-checked.field-0.0 in
    let e = u.refusal in
    let r = book_refused c.args.book.now c.args.plan.now c.args.words.now _ _ (from_err c.args.book.now (Err u) c.in_err-checked.ensures u refl) in
    record { body = rw (p.1, p.2) (body_refused c.args.book.now c.args.plan.now c.args.words.now e r _); lent = words_refused c.args.book.now c.args.plan.now c.args.words.now e r _ refl }

pub returns-in_err-plan : goal.returns-in_err-plan
returns-in_err-plan c =
    let p = err_from_is_err_and c.from_residual-in_err-plan.result c.from_residual-in_err-plan.ensures.1 in
    let k = from_ok c.args.book.now (Ok c.in_ok-checked.checked) c.in_ok-checked.ensures c.in_ok-checked.checked refl in
    let e = c.in_err-plan.field-0.0 in
    let r = plan_refused c.args.book.now c.args.plan.now c.args.words.now _ _ k.book k.read (answer_refused c.args.plan.now (Err e) c.in_err-plan.ensures e refl) in
    record { body = rw (p.1, p.2) (body_refused c.args.book.now c.args.plan.now c.args.words.now e r _); lent = words_refused c.args.book.now c.args.plan.now c.args.words.now e r _ refl }

pub list_book-requires : goal.list_book-requires
list_book-requires c =
    record { bytes = c.args.book.now; from = from_ok c.args.book.now (Ok c.in_ok-checked.checked) c.in_ok-checked.ensures c.in_ok-checked.checked refl }

pub returns-in_err-need : goal.returns-in_err-need
returns-in_err-need c =
    let p = err_from_is_err_and c.from_residual-in_err-need.result c.from_residual-in_err-need.ensures.1 in
    let k = from_ok c.args.book.now (Ok c.in_ok-checked.checked) c.in_ok-checked.ensures c.in_ok-checked.checked refl in
    let f = answer_fine c.args.plan.now (Ok c.in_ok-plan.plan) c.in_ok-plan.ensures c.in_ok-plan.plan refl in
    let e = c.in_err-need.field-0.0 in
    let l = listed_err k.book c.args.words.now (Err e) c.list_book.new.words (c.in_err-need.ensures c.args.book.now k.book k.read k) e refl in
    let r = room_refused c.args.book.now c.args.plan.now c.args.words.now _ _ k.book k.read f.0 f.1 l.0 in
    record { body = rw (p.1, p.2) (body_refused c.args.book.now c.args.plan.now c.args.words.now e r _); lent = words_refused c.args.book.now c.args.plan.now c.args.words.now e r _ l.1 }

pub slice_bounds-put_ports-end : goal.slice_bounds-put_ports-end
slice_bounds-put_ports-end c =
    let k = from_ok c.args.book.now (Ok c.in_ok-checked.checked) c.in_ok-checked.ensures c.in_ok-checked.checked refl in
    let l = listed_ok k.book c.args.words.now (Ok c.in_ok-need.need) c.list_book.new.words (c.in_ok-need.ensures c.args.book.now k.book k.read k) c.in_ok-need.need refl in
    omega (arith, l.words, l.fits)

pub slice_bounds-put_ports-end-2 : goal.slice_bounds-put_ports-end-2
slice_bounds-put_ports-end-2 c =
    let k = from_ok c.args.book.now (Ok c.in_ok-checked.checked) c.in_ok-checked.ensures c.in_ok-checked.checked refl in
    let l = listed_ok k.book c.args.words.now (Ok c.in_ok-need.need) c.list_book.new.words (c.in_ok-need.ensures c.args.book.now k.book k.read k) c.in_ok-need.need refl in
    omega (arith, l.words, ap length (list_is k.book _ _ _ l))

pub put_ports-requires : goal.put_ports-requires
put_ports-requires c =
    let k = from_ok c.args.book.now (Ok c.in_ok-checked.checked) c.in_ok-checked.ensures c.in_ok-checked.checked refl in
    let f = answer_fine c.args.plan.now (Ok c.in_ok-plan.plan) c.in_ok-plan.ensures c.in_ok-plan.plan refl in
    let l = listed_ok k.book c.args.words.now (Ok c.in_ok-need.need) c.list_book.new.words (c.in_ok-need.ensures c.args.book.now k.book k.read k) c.in_ok-need.need refl in (
      record { book = k.book; read = k.read; are = list_is k.book _ _ _ l },
      record { bytes = c.args.plan.now; ports = f.0; read = f.1; contents = f.2 },
      omega (arith, c.requires, ap length c.put_counts.ensures, length_both, (counts_short c.in_ok-checked.checked.contents.rules c.in_ok-need.need.rules).within),
    )

pub returns-clause-body : goal.returns-clause-body
returns-clause-body c =
    let k = from_ok c.args.book.now (Ok c.in_ok-checked.checked) c.in_ok-checked.ensures c.in_ok-checked.checked refl in
    let f = answer_fine c.args.plan.now (Ok c.in_ok-plan.plan) c.in_ok-plan.ensures c.in_ok-plan.plan refl in
    let l = listed_ok k.book c.args.words.now (Ok c.in_ok-need.need) c.list_book.new.words (c.in_ok-need.ensures c.args.book.now k.book k.read k) c.in_ok-need.need refl in
    body_put c.args.book.now c.args.plan.now c.args.words.now k.book k.read f.0 f.1 _ _ l _ (total_told _ k.book k.contents) _ f.2 _ _ _ c.put_counts.ensures c.put_ports.ensures

pub returns-clause-lent : goal.returns-clause-lent
returns-clause-lent c =
    let k = from_ok c.args.book.now (Ok c.in_ok-checked.checked) c.in_ok-checked.ensures c.in_ok-checked.checked refl in
    let f = answer_fine c.args.plan.now (Ok c.in_ok-plan.plan) c.in_ok-plan.ensures c.in_ok-plan.plan refl in
    let l = listed_ok k.book c.args.words.now (Ok c.in_ok-need.need) c.list_book.new.words (c.in_ok-need.ensures c.args.book.now k.book k.read k) c.in_ok-need.need refl in
    words_filled c.args.book.now c.args.plan.now c.args.words.now k.book k.read f.0 f.1 _ _ l
