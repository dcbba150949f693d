-- `review::slices::step_rule` meets its contract. Assumes nothing.
use Rattle.std.proofs.Common.{◌∙◌, ap, Ok, arith}
use Rattle.sweep.proofs.Answers.{kept_of}
use Rattle.review.specs.States.{phase_of}
use Rattle.review.proofs.Held.{state_told}
use Rattle.review.proofs.Steps.{step_refuses, step_full, step_moves}
use Rattle.review.proofs.slices.step_rule.Goals as goal

pub take_rule-requires-clause-kept : goal.take_rule-requires-clause-kept
take_rule-requires-clause-kept c =
    let st = c.args.state.now in
    let here = state_told st (omega arith) (omega arith) c.requires.written in
    kept_of st.suspects st.port st.place (phase_of st.phase) here

pub returns-in-Err : goal.returns-in-Err
returns-in-Err c = λ r h.
    let a = c.args in
    let here = state_told a.state.now (omega arith) (omega arith) c.requires.written in
    rw c.at.ensures (step_full a.book.now a.list.now a.state.now here _ _ c.take_rule.ensures r h _ c.in-Err.is)

pub returns-in-Ok-Some : goal.returns-in-Ok-Some
returns-in-Ok-Some c = λ r h.
    let a = c.args in
    let here = state_told a.state.now (omega arith) (omega arith) c.requires.written in
    step_refuses a.book.now a.list.now a.state.now here _ _ c.take_rule.ensures r h _ _ (c.in-Ok-Some.is ∙ ap Ok c.in-Ok-Some.field-0-is)

pub returns-in-Ok-None : goal.returns-in-Ok-None
returns-in-Ok-None c = λ r h.
    let a = c.args in
    let here = state_told a.state.now (omega arith) (omega arith) c.requires.written in
    step_moves a.book.now a.list.now a.state.now here _ _ c.take_rule.ensures r h (c.in-Ok-None.is ∙ ap Ok c.in-Ok-None.field-0-is) _ c.phase_at-state.ensures
