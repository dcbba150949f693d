-- `review::take_rule` meets its contract. Assumes nothing.
use Rattle.std.proofs.Common.{rules, sym, ap, ◌∙◌, subst, Ok, Err}
use Rattle.std.proofs.lemmas.Result.{err_from_is_err_and}
use Rattle.review.specs.Taken.{TakesRule}
use Rattle.review.proofs.Takes.{has_writing, named, mapped, takes_first, takes_rest, takes_full}
use Rattle.review.proofs.take_rule.Goals as goal

pub first_passing-source-requires-clause-written : goal.first_passing-source-requires-clause-written
first_passing-source-requires-clause-written c = let a = c.args in has_writing a.s.now a.list.now a.at a.port a.suspects.now c.requires.stands

pub returns-then-list-at : goal.returns-then-list-at
returns-then-list-at c =
    let a = c.args in
    let f = c.first_passing-source.result in
    let is = mapped (named a.list.now a.at) f c.map.result c.map.ensures.cases (λ x r q. search rules) in
    subst (λ o. TakesRule a.s.now a.list.now a.at a.port a.suspects.now (Ok o) a.suspects.now) (sym is)
    (takes_first a.s.now a.list.now a.at a.port a.suspects.now (c.if-list-at.true ∙ c.number.ensures) f c.first_passing-source.ensures)

pub drop_suspects-requires-clause-written : goal.drop_suspects-requires-clause-written
drop_suspects-requires-clause-written c = let a = c.args in has_writing a.s.now a.list.now a.at a.port a.suspects.now c.requires.stands

pub returns-in_err-suspects : goal.returns-in_err-suspects
returns-in_err-suspects c =
    let a = c.args in
    let p = err_from_is_err_and c.from_residual.result c.from_residual.ensures.1 in
    subst (λ t. TakesRule a.s.now a.list.now a.at a.port a.suspects.now t a.suspects.now) (sym (p.1 ∙ ap Err p.2))
    (takes_full a.s.now a.list.now a.at a.port a.suspects.now (λ e. c.if-list-at.false (e ∙ sym c.number.ensures)) c.drop_suspects.result c.drop_suspects.ensures _ c.in_err-suspects.was)

pub returns : goal.returns
returns c = let a = c.args in takes_rest a.s.now a.list.now a.at a.port a.suspects.now (λ e. c.if-list-at.false (e ∙ sym c.number.ensures)) c.drop_suspects.result c.drop_suspects.ensures _ c.in_ok-suspects.was
