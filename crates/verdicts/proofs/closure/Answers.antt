-- `verdicts::closure` meets its contract: the check of the book, and then its list. Assumes nothing.
use Rattle.std.proofs.lemmas.Result.{err_from_is_err_and}
use Rattle.checking.proofs.Uses.{from_ok, from_err}
use Rattle.walks.specs.Packets.{packet_of, tactic_of}
use Rattle.verdicts.proofs.Entries.{closure_book, closure_meets}
use Rattle.verdicts.proofs.closure.Goals as goal

pub returns-in_err-checked : goal.returns-in_err-checked
returns-in_err-checked c =
    let a = c.args in
    let p = err_from_is_err_and c.from_residual.result c.from_residual.ensures.1 in
    let m = closure_book _ _ _ (from_err _ _ c.check.ensures _ c.in_err-checked.was) (packet_of a.p) (tactic_of a.tactic) a.words.now in
    record { answer = rw (p.1, p.2) m.0; lent = m.1 }

pub by_list-requires : goal.by_list-requires
by_list-requires c = from_ok _ _ c.check.ensures _ c.in_ok-checked.was

pub returns : goal.returns
returns c =
    let a = c.args in
    let k = from_ok _ _ c.check.ensures _ c.in_ok-checked.was in
    let m = closure_meets _ k.book k.read a.p _ a.words.now c.by_list.result _ a.tactic (c.by_list.ensures k.book k.read) in
    record { answer = m.0; lent = m.1 }
