-- `verdicts::list_verdict` meets its contract: the check of the book and the answers, and then its list. Assumes nothing.
use Rattle.std.proofs.lemmas.Result.{err_from_is_err_and}
use Rattle.checking.proofs.Uses.{from_ok, from_err}
use Rattle.walks.specs.Packets.{packet_of}
use Rattle.verdicts.proofs.Entries.{list_book, list_wrong, list_meets}
use Rattle.verdicts.proofs.list_verdict.Goals as goal

pub returns-in_err-checked : goal.returns-in_err-checked
returns-in_err-checked c =
    let a = c.args in
    let p = err_from_is_err_and c.from_residual.result c.from_residual.ensures.1 in
    let m = list_book _ _ _ (from_err _ _ c.check.ensures _ c.in_err-checked.was) (packet_of a.p) a.answers.now a.words.now in
    record { answer = rw (p.1, p.2) m.0; lent = m.1 }

pub returns-in_err-check_answers : goal.returns-in_err-check_answers
returns-in_err-check_answers c =
    let a = c.args in
    let p = err_from_is_err_and c.from_residual-in_err-check_answers.result c.from_residual-in_err-check_answers.ensures.1 in
    let k = from_ok _ _ c.check.ensures _ c.in_ok-checked.was in
    let m = list_wrong _ k.book k.read a.answers.now _ _ c.in_err-check_answers.ensures (packet_of a.p) a.words.now in
    record { answer = rw (p.1, p.2) m.0; lent = m.1 }

pub by_list-requires : goal.by_list-requires
by_list-requires c = from_ok _ _ c.check.ensures _ c.in_ok-checked.was

pub returns : goal.returns
returns c =
    let a = c.args in
    let k = from_ok _ _ c.check.ensures _ c.in_ok-checked.was in
    let m = list_meets _ k.book k.read a.p a.answers.now a.words.now c.by_list.result _ _ c.in_ok-check_answers.ensures (c.by_list.ensures k.book k.read) in
    record { answer = m.0; lent = m.1 }
