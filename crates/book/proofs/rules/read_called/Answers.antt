-- Paths into the laws of ActionSteps.
use Rattle.std.proofs.Common.{◌≡◌, ◌∙◌, arith}
use Rattle.std.specs.Prelude.{ltb, ◌&&◌}
use Rattle.std.proofs.lemmas.Bool.Decides.{nat_tests}
use Rattle.std.proofs.lemmas.Result.{err_from_is_err_and}
use Rattle.book.proofs.ActionSteps.{call_refused, call_none, call_got}
use Rattle.book.proofs.rules.read_called.Goals as goal

pub returns-in_err-number : goal.returns-in_err-number
returns-in_err-number c =
    let p = err_from_is_err_and c.from_residual.result c.from_residual.ensures.1 in
    rw (p.1, p.2) (call_refused _ _ _ _ _ c.in_err-number.ensures)

pub returns-then-not-contains : goal.returns-then-not-contains
returns-then-not-contains c =
    let v : (ltb 0 c.in_ok-number.number.value && ltb c.in_ok-number.number.value c.args.chains) ≡ c.contains.result =
    rw c.contains.ensures.value (grind (arith, nat_tests)) in
    rw c.at.ensures (call_none _ _ _ _ c.in_ok-number.ensures (v ∙ c.if-not-contains.true))

pub returns : goal.returns
returns c =
    let v : (ltb 0 c.in_ok-number.number.value && ltb c.in_ok-number.number.value c.args.chains) ≡ c.contains.result =
    rw c.contains.ensures.value (grind (arith, nat_tests)) in
    call_got _ _ _ _ c.in_ok-number.ensures (v ∙ c.if-not-contains.false)
