-- `checking::rank_calls` meets its contract: the check of the calls, and then the ranks. Assumes nothing.
use Rattle.std.proofs.lemmas.Result.{err_from_is_err_and}
use Rattle.calls.proofs.Charted.{charted_actions}
use Rattle.checking.proofs.Whole.{calls_refused, calls_pass}
use Rattle.checking.proofs.rank_calls.Goals as goal

pub ranks-requires : goal.ranks-requires
ranks-requires c = c.requires.few

pub returns-in_err-check_calls : goal.returns-in_err-check_calls
returns-in_err-check_calls c = λ b st k.
    let p = err_from_is_err_and c.from_residual.result c.from_residual.ensures.1 in
    let all = c.reached-sets.ensures b (charted_actions k) in
    rw (p.1, p.2) (calls_refused _ b st _ (c.in_err-check_calls.ensures b st (charted_actions k) all))

pub returns : goal.returns
returns c = λ b st k.
    let all = c.reached-sets.ensures b (charted_actions k) in
    calls_pass k st (c.in_ok-check_calls.ensures b st (charted_actions k) all) _ all _ c.ranks.ensures
