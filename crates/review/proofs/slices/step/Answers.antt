-- `review::slices::step` meets its contract: the book's check, the state's phase and writing, the rule at its place, and then that rule. Assumes nothing.
use Rattle.std.proofs.Common.{◌≡◌, rules, sym, ◌∙◌}
use Rattle.std.proofs.lemmas.Result.{err_from_is_err_and}
use Rattle.checking.proofs.Uses.{from_ok, from_err}
use Rattle.review.specs.States.{phase_of}
use Rattle.review.specs.declared.Phase.TheVariants.{Running}
use Rattle.review.proofs.Calls.{known, has_book, entry_refused, call_finished, call_unwritten, call_unknown, call_has, call_rule}
use Rattle.review.proofs.slices.step.Goals as goal
use Rattle.review.proofs.slices.step.Goals.{then-not-is_written-via-then-not-is_written, then-not-is_written-via-else-not-is_written+then-not-is_rule}

pub returns-in_err-checked : goal.returns-in_err-checked
returns-in_err-checked c =
    let a = c.args in
    let p = err_from_is_err_and c.from_residual.result c.from_residual.ensures.1 in
    rw (p.1, p.2) (entry_refused a.book.now a.list.now a.state.now _ (from_err _ _ c.check.ensures _ c.in_err-checked.was))

pub returns-then-ne : goal.returns-then-ne
returns-then-ne c =
    let a = c.args in
    let k = from_ok _ _ c.check.ensures _ c.in_ok-checked.was in
    call_finished a.book.now a.list.now a.state.now c.in_ok-checked.checked k (λ e. search rules)

pub is_rule-requires : goal.is_rule-requires
is_rule-requires c = has_book c.args.book.now c.args.list.now c.args.state.now c.in_ok-checked.checked (from_ok _ _ c.check.ensures _ c.in_ok-checked.was)

pub returns-then-not-is_written : goal.returns-then-not-is_written
returns-then-not-is_written c =
    let a = c.args in
    let st = a.state.now in
    let k = from_ok _ _ c.check.ensures _ c.in_ok-checked.was in
    let written = c.is_written.ensures st.port st.place (phase_of st.phase) in
    let runs : st.phase ≡ Running = search rules in
    rw c.at.ensures (elim c.then-not-is_written.branch [
      | then-not-is_written-via-then-not-is_written w ↦ call_unwritten a.book.now a.list.now st c.in_ok-checked.checked k runs (sym written ∙ w.if-not-is_written.true)
      | then-not-is_written-via-else-not-is_written+then-not-is_rule w ↦ call_unknown a.book.now a.list.now st c.in_ok-checked.checked k runs (sym written ∙ w.if-not-is_written.false)
          w.is_rule.result (w.is_rule.ensures _ (known a.book.now a.list.now st c.in_ok-checked.checked k)) w.if-not-is_rule.true
    ])

pub step_rule-requires-clause-stands : goal.step_rule-requires-clause-stands
step_rule-requires-clause-stands c =
    let a = c.args in
    let st = a.state.now in
    let k = from_ok _ _ c.check.ensures _ c.in_ok-checked.was in
    let written = c.is_written.ensures st.port st.place (phase_of st.phase) in
    let runs : st.phase ≡ Running = search rules in
    call_has a.book.now a.list.now st c.in_ok-checked.checked k runs (sym written ∙ c.if-not-is_written.false)
    c.is_rule.result (c.is_rule.ensures _ (known a.book.now a.list.now st c.in_ok-checked.checked k)) c.if-not-is_rule.false

pub returns : goal.returns
returns c =
    let a = c.args in
    let st = a.state.now in
    let k = from_ok _ _ c.check.ensures _ c.in_ok-checked.was in
    let written = c.is_written.ensures st.port st.place (phase_of st.phase) in
    let runs : st.phase ≡ Running = search rules in
    call_rule a.book.now a.list.now st c.in_ok-checked.checked k runs (sym written ∙ c.if-not-is_written.false)
    c.is_rule.result (c.is_rule.ensures _ (known a.book.now a.list.now st c.in_ok-checked.checked k)) c.if-not-is_rule.false _ _ c.step_rule.ensures
