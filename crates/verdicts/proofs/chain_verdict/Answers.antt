-- `verdicts::chain_verdict` meets its contract: the check of the book and the answers, and then its chains. Assumes nothing.
use Rattle.std.proofs.lemmas.Result.{err_from_is_err_and}
use Rattle.checking.proofs.Uses.{from_ok, from_err}
use Rattle.verdicts.proofs.Laws.{can_walk, walked}
use Rattle.verdicts.proofs.Entries.{chain_book, chain_wrong, chain_meets}
use Rattle.verdicts.proofs.chain_verdict.Goals as goal

pub returns-in_err-contents : goal.returns-in_err-contents
returns-in_err-contents c =
    let p = err_from_is_err_and c.from_residual.result c.from_residual.ensures.1 in
    rw (p.1, p.2) (chain_book _ _ _ (from_err _ _ c.check.ensures _ c.in_err-contents.was) _ _)

pub returns-in_err-check_answers : goal.returns-in_err-check_answers
returns-in_err-check_answers c =
    let p = err_from_is_err_and c.from_residual-in_err-check_answers.result c.from_residual-in_err-check_answers.ensures.1 in
    let k = from_ok _ _ c.check.ensures _ c.in_ok-contents.was in
    rw (p.1, p.2) (chain_wrong _ k.book k.read _ _ _ c.in_err-check_answers.ensures _)

pub chain_verdict-verdict-requires : goal.chain_verdict-verdict-requires
chain_verdict-verdict-requires c = can_walk (from_ok _ _ c.check.ensures _ c.in_ok-contents.was)

pub returns : goal.returns
returns c =
    let a = c.args in
    let k = from_ok _ _ c.check.ensures _ c.in_ok-contents.was in
    chain_meets _ k.book k.read a.answers.now _ c.in_ok-check_answers.ensures _ _
    (walked k a.answers.now a.p c.number-policy.result c.chain_verdict-verdict.result c.number-policy.ensures c.chain_verdict-verdict.ensures _ c.of.ensures k.book k.read)
