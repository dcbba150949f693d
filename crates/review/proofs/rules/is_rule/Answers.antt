-- `review::rules::is_rule` meets its contract: each test by itself, and then the conditions. Assumes nothing.
use Rattle.std.proofs.Common.{◌∙◌, arith}
use borrow.Author.Tests.{lt-leb}
use Rattle.review.proofs.ToldRules.{front_short, front_none, front_long, front_other, front_conditions}
use Rattle.review.proofs.rules.is_rule.Goals as goal

pub returns-in_default : goal.returns-in_default
returns-in_default c = λ b k. front_none b c.args.list.now c.args.place c.get.result c.get.ensures.lookup c.in_default.is

pub returns-in_default-rule : goal.returns-in_default-rule
returns-in_default-rule c = λ b k. front_short b c.args.list.now c.args.place c.get.result c.get.ensures.lookup _ c.in-Some.is c.in_default-rule.len_below

pub returns-in_default-get : goal.returns-in_default-get
returns-in_default-get c = λ b k.
    front_long b c.args.list.now c.args.place c.get.result c.get.ensures.lookup _ c.in-Some.is c.in-len3-up.len_at_least _ c.get-2.ensures.lookup c.in_default-get.is

pub returns-then-action-number : goal.returns-then-action-number
returns-then-action-number c = λ b k.
    front_conditions b c.args.list.now c.args.place c.get.result c.get.ensures.lookup _ c.in-Some.is c.in-len3-up.len_at_least _ c.get-2.ensures.lookup _ c.in-Some-get.is
    (omega (arith, c.number.ensures)) _ (c.are_conditions.ensures b k)

pub returns-else-action-number : goal.returns-else-action-number
returns-else-action-number c = λ b k.
    lt-leb _ _ c.if-action-number.false
    ∙ front_other b c.args.list.now c.args.place c.get.result c.get.ensures.lookup _ c.in-Some.is c.in-len3-up.len_at_least _ c.get-2.ensures.lookup _ c.in-Some-get.is (omega (arith, c.number.ensures))
