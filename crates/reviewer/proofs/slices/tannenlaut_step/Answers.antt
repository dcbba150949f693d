-- `reviewer::tannenlaut_step` meets its contract: the words in, one call, and the words out. Assumes nothing.
use Rattle.std.proofs.Common.{◌∙◌, ap, get_or}
use Rattle.reviewer.specs.Words.{given_words}
use Rattle.reviewer.proofs.States.{step_stray, step_refused, step_goes, step_moves, step_stays}
use Rattle.reviewer.proofs.slices.tannenlaut_step.Goals as goal

pub returns-in_default : goal.returns-in_default
returns-in_default c =
    let a = c.args in
    let w = step_stray a.book.now a.list.now a.state.now c.in_default.ensures c.stray.result c.stray.ensures in
    record { answer = c.refused.ensures ∙ w.0; state = w.1 }

pub returns-in-Err : goal.returns-in-Err
returns-in-Err c =
    let a = c.args in
    let read = c.in-Some.ensures in
    let w = step_refused a.book.now a.list.now a.state.now read.0 c.in-Some.asked read.1 c.step.result c.step.new.state c.step.ensures _ c.in-Err.is in
    record { answer = c.refused-in-Err.ensures ∙ w.0; state = w.1 }

pub returns-then-state-eq0 : goal.returns-then-state-eq0
returns-then-state-eq0 c =
    let a = c.args in
    let read = c.in-Some.ensures in
    record {
      answer =
          c.given.ensures ∙ ap (λ l. given_words (get_or l 0 0) 0 0) c.phase_out.ensures
          ∙ step_goes a.book.now a.list.now a.state.now read.0 c.in-Some.asked read.1 c.step.result c.step.new.state c.step.ensures _ c.in-Ok.is;
      state = c.state_out.ensures
          ∙ step_moves a.book.now a.list.now a.state.now read.0 c.in-Some.asked read.1 c.step.result c.step.new.state c.step.ensures _ c.in-Ok.is c.if-state-eq0.true;
    }

pub returns-else-state-eq0 : goal.returns-else-state-eq0
returns-else-state-eq0 c =
    let a = c.args in
    let read = c.in-Some.ensures in
    record {
      answer =
          c.given.ensures ∙ ap (λ l. given_words (get_or l 0 0) 0 0) c.phase_out.ensures
          ∙ step_goes a.book.now a.list.now a.state.now read.0 c.in-Some.asked read.1 c.step.result c.step.new.state c.step.ensures _ c.in-Ok.is;
      state = step_stays a.book.now a.list.now a.state.now read.0 c.in-Some.asked read.1 c.step.result c.step.new.state c.step.ensures _ c.in-Ok.is c.if-state-eq0.false;
    }
