-- `numbers::read_field` meets its contract: what the number reader found, judged by its limits. Assumes nothing.
use Rattle.std.specs.Prelude.{leb, ◌&&◌}
use Rattle.std.proofs.Common.{◌≡◌, ◌∙◌, arith}
use Rattle.std.proofs.lemmas.Bool.Decides.{nat_tests}
use Rattle.std.proofs.lemmas.Result.{err_from_is_err_and}
use Rattle.numbers.specs.Field.{field_at}
use Rattle.numbers.proofs.Fields.{numeral_of, illegible_of}
use Rattle.numbers.proofs.read_field.Goals as goal

pub returns-in_err-number : goal.returns-in_err-number
unfolding field_at
returns-in_err-number c =
    let p = err_from_is_err_and c.from_residual.result c.from_residual.ensures.1 in
    let q = illegible_of _ _ _ _ c.in_err-number.ensures in
    rw (p.1, p.2, q.0, q.1)

pub returns-then-not-contains : goal.returns-then-not-contains
unfolding field_at
returns-then-not-contains c =
    let v : (leb c.args.low c.in_ok-number.number.value && leb c.in_ok-number.number.value c.args.high) ≡ c.contains.result =
    rw (c.contains.ensures.value, c.new.ensures.start, c.new.ensures.end, c.new.ensures.exhausted, c.from.ensures) (grind (arith, nat_tests)) in
    rw (c.at.ensures, numeral_of _ _ _ c.in_ok-number.ensures, v ∙ c.if-not-contains.true)

pub returns : goal.returns
unfolding field_at
returns c =
    let v : (leb c.args.low c.in_ok-number.number.value && leb c.in_ok-number.number.value c.args.high) ≡ c.contains.result =
    rw (c.contains.ensures.value, c.new.ensures.start, c.new.ensures.end, c.new.ensures.exhausted, c.from.ensures) (grind (arith, nat_tests)) in
    rw (numeral_of _ _ _ c.in_ok-number.ensures, v ∙ c.if-not-contains.false)
