-- `expressions::read_expression` and `expressions::read_operands` meet their contracts: a law for each kind, and one for each number of operands left.
-- Assumes nothing.
use Rattle.std.proofs.Common.{◌≡◌, ℕ, ◌+◌, ◌-◌, ◌<◌, sym, ap, subst, ◌∙◌, arith}
use Rattle.std.proofs.lemmas.Result.{err_from_is_err_and}
use Rattle.model.specs.Reader.{each}
use Rattle.model.specs.Book.{expression}
use Rattle.model.proofs.NumberPast.{number_past}
use Rattle.numbers.proofs.Fields.{numeral_of}
use Rattle.expressions.specs.Told.{noted, stand}
use Rattle.expressions.specs.Kinds.{kind_number}
use Rattle.expressions.proofs.Told.{each_none, each_refused, each_got}
use Rattle.expressions.proofs.Fields.{field_number}
use Rattle.expressions.proofs.ByKind.{no_level, entered, kind_refused, is_negation, is_count_refused, is_conjunction, is_no_kind}
use Rattle.expressions.proofs.Ends.{found}
use Rattle.expressions.proofs.+read_expression_read_operands.Goals as goal

pub read_expression-returns-then-levels-eq0 : goal.read_expression-returns-then-levels-eq0
read_expression-returns-then-levels-eq0 t c = rw c.at.ensures (no_level _ c.if-levels-eq0.true _ _ _)

pub read_expression-returns-in_err-number : goal.read_expression-returns-in_err-number
read_expression-returns-in_err-number t c =
    let p = err_from_is_err_and c.from_residual.result c.from_residual.ensures.1 in
    rw (p.1, p.2) (λ rules. entered _ c.if-levels-eq0.false _ _ _ (kind_refused _ _ _ _ c.in_err-number.ensures _ _ rules))

pub read_expression-returns-in_default : goal.read_expression-returns-in_default
read_expression-returns-in_default t c =
    rw c.at-in_default.ensures (λ rules. entered _ c.if-levels-eq0.false _ _ _
    (is_no_kind _ _ _ _ _ (numeral_of _ _ _ c.in_ok-number.ensures) c.in_default.ensures.1 _ rules))

pub read_expression-read_expression-requires : goal.read_expression-read_expression-requires
read_expression-read_expression-requires t c = omega (arith, number_past _ _ _ _ (numeral_of _ _ _ c.in_ok-number.ensures), c.decreases)

pub read_expression-returns-in-Not : goal.read_expression-returns-in-Not
read_expression-returns-in-Not t c = λ rules.
    entered _ c.if-levels-eq0.false _ _ _
    (is_negation _ _ _ _ _ (numeral_of _ _ _ c.in_ok-number.ensures) _ (sym c.in-Ok.ensures ∙ ap kind_number c.in-Not.is) _ c.read_expression.ensures rules)

pub read_expression-returns-in_err-count-in-All : goal.read_expression-returns-in_err-count-in-All
read_expression-returns-in_err-count-in-All t c =
    let p = err_from_is_err_and c.from_residual-in_err-count-in-All.result c.from_residual-in_err-count-in-All.ensures.1 in
    rw (p.1, p.2) (λ rules. entered _ c.if-levels-eq0.false _ _ _
    (is_count_refused _ _ _ _ _ (numeral_of _ _ _ c.in_ok-number.ensures) _ (sym c.in-Ok.ensures ∙ ap kind_number c.in-All.is) _ _ c.in_err-count-in-All.ensures rules))

pub read_expression-read_operands-requires : goal.read_expression-read_operands-requires
read_expression-read_operands-requires t c =
    let count = field_number _ _ _ _ _ _ (numeral_of _ _ _ c.in_ok-count-in-All.ensures) in
    omega (arith, number_past _ _ _ _ (numeral_of _ _ _ c.in_ok-number.ensures), number_past _ _ _ _ count, c.decreases)

pub read_expression-returns : goal.read_expression-returns
read_expression-returns t c = λ rules.
    entered _ c.if-levels-eq0.false _ _ _
    (is_conjunction _ _ _ _ _ (numeral_of _ _ _ c.in_ok-number.ensures) _ (sym c.in-Ok.ensures ∙ ap kind_number c.in-All.is) _ c.in_ok-count-in-All.ensures _
    c.read_operands.ensures rules)

pub read_expression-returns-in_default-kind : goal.read_expression-returns-in_default-kind
read_expression-returns-in_default-kind t c = λ rules. entered _ c.if-levels-eq0.false _ _ _ (c.read_plain.ensures _ rules)

-- an operand is left
left_over : (n i : ℕ) → i < n → n - i ≡ 0 → ⊥
left_over n i h e = omega arith

all_left : (n : ℕ) (F : ℕ → Type 0) → F (n - 0) → F n
all_left n F x = let e : n - 0 ≡ n = omega arith in subst F e x

pub read_operands-loop-init : goal.read_operands-loop-init
read_operands-loop-init t c =
    let a = c.args in
    record {
      ahead = omega arith;
      rest = λ r h rules i. all_left _ (λ k. r ≡ noted (each k i (λ j. expression a.levels) a.s.now (stand a.at rules a.sources))) (h rules i);
    }

pub read_operands-read_expression-requires : goal.read_operands-read_expression-requires
read_operands-read_expression-requires t c = omega (arith, c.loop.invariant.ahead, c.decreases)

pub read_operands-returns-in_err-read : goal.read_operands-returns-in_err-read
read_operands-returns-in_err-read t c =
    let p = err_from_is_err_and c.from_residual.result c.from_residual.ensures.1 in let l = c.loop in
    rw (p.1, p.2) (l.invariant.rest _ (λ rules j. sym (each_refused (expression c.args.levels) _ (stand _ rules _) j _ (left_over _ _ c.loop-test.true) _ _
    (sym (c.in_err-read.ensures rules)))))

pub read_operands-loop-preserved : goal.read_operands-loop-preserved
read_operands-loop-preserved t c =
    let l = c.loop in
    let f = found _ _ (stand l.read.next 0 l.read.sources) _ (sym (c.in_ok-read.ensures 0)) in
    record {
      ahead = omega (arith, l.invariant.ahead, f.on);
      rest = λ r h. l.invariant.rest r (λ rules j. each_got (expression c.args.levels) _ (stand _ rules _) j _ (left_over _ _ c.loop-test.true) _
          (sym (c.in_ok-read.ensures rules)) r (λ rules j. let one : (c.args.count - l.counter) - 1 ≡ c.args.count - (l.counter + 1) = omega arith in rw one (h rules j)));
    }

pub read_operands-returns : goal.read_operands-returns
read_operands-returns t c =
    let l = c.loop in
    l.invariant.rest _ (λ rules j. sym (each_none (expression c.args.levels) _ (stand _ rules _) j _ (omega (arith, c.loop-test.false))))
