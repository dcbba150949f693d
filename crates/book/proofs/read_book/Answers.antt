-- Paths into the laws of BookSteps.
use Rattle.std.proofs.lemmas.Result.{err_from_is_err_and}
use Rattle.book.proofs.BookSteps.{charting_none, too_long, edition_refused, count_refused, few, policy_refused, chains_refused, bytes_after, all_read}
use Rattle.book.proofs.read_book.Goals as goal

pub returns-then-s-gt-BYTES : goal.returns-then-s-gt-BYTES
returns-then-s-gt-BYTES c = rw c.at.ensures (too_long _ c.if-s-gt-BYTES.true)

pub returns-in_err-edition : goal.returns-in_err-edition
returns-in_err-edition c =
    let p = err_from_is_err_and c.from_residual.result c.from_residual.ensures.1 in
    rw (p.1, p.2) (edition_refused _ c.if-s-gt-BYTES.false _ _ c.in_err-edition.ensures)

pub returns-in_err-chains : goal.returns-in_err-chains
returns-in_err-chains c =
    let p = err_from_is_err_and c.from_residual-in_err-chains.result c.from_residual-in_err-chains.ensures.1 in
    rw (p.1, p.2) (count_refused _ c.if-s-gt-BYTES.false _ c.in_ok-edition.ensures _ _ c.in_err-chains.ensures)

pub returns-in_err-policy : goal.returns-in_err-policy
returns-in_err-policy c =
    let p = err_from_is_err_and c.from_residual-in_err-policy.result c.from_residual-in_err-policy.ensures.1 in
    rw (p.1, p.2) (policy_refused _ c.if-s-gt-BYTES.false _ c.in_ok-edition.ensures _ c.in_ok-chains.ensures _ _ c.in_err-policy.ensures)

pub read_chains-requires : goal.read_chains-requires
read_chains-requires c = (c.if-s-gt-BYTES.false, few _ c.if-s-gt-BYTES.false _ c.in_ok-edition.ensures _ c.in_ok-chains.ensures, charting_none _ _)

pub returns-in_err-next : goal.returns-in_err-next
returns-in_err-next c =
    let p = err_from_is_err_and c.from_residual-in_err-next.result c.from_residual-in_err-next.ensures.1 in
    rw (p.1, p.2) (chains_refused _ c.if-s-gt-BYTES.false _ c.in_ok-edition.ensures _ c.in_ok-chains.ensures _ c.in_ok-policy.ensures _ _ c.in_err-next.ensures.answer)

pub returns-then-next-s : goal.returns-then-next-s
returns-then-next-s c = rw c.at-then-next-s.ensures
    (bytes_after _ c.if-s-gt-BYTES.false _ c.in_ok-edition.ensures _ c.in_ok-chains.ensures _ c.in_ok-policy.ensures _ c.in_ok-next.ensures.answer c.if-next-s.true)

pub returns : goal.returns
returns c = all_read _ c.if-s-gt-BYTES.false _ c.in_ok-edition.ensures _ c.in_ok-chains.ensures _ c.in_ok-policy.ensures
    _ c.in_ok-next.ensures.answer c.if-next-s.false _ c.of.ensures _ c.in_ok-next.ensures.charted
