-- The answers of the cycle of calls {walk_chain, walk_rule}: each chain by what is left of it behind each of its rules. Assumes nothing.
use Rattle.std.proofs.Common.{◌≡◌, ◌∙◌, refl, sym, arith, rules, ap}
use Rattle.book.specs.declared.Verdict.TheVariants as verdict
use Rattle.model.specs.Chains.{undecided, or_else}
use Rattle.book.specs.Contents.{said}
use Rattle.matching.specs.declared.Truth.TheVariants.{Yes}
use Rattle.walks.proofs.Walks.{in_total, rule_passes, rule_acts, rule_denies, rule_calls, ends}
use Rattle.walks.proofs.Walks.{left_all, left_standing, left_ends, left_on, left_none, walk_none, walk_some}
use Rattle.walks.specs.declared.Step.TheVariants.{Decides, Leaves}
use Rattle.walks.specs.Walks.{decided, outcome_of, after}
use Rattle.walks.proofs.+walk_chain_walk_rule.Goals as goal

pub walk_chain-returns-then-depth-eq0 : goal.walk_chain-returns-then-depth-eq0
walk_chain-returns-then-depth-eq0 t c = λ b k lt. walk_none b _ _ _ c.if-depth-eq0.true

pub walk_chain-loop-i-init : goal.walk_chain-loop-i-init
walk_chain-loop-i-init t c = λ b k lt. left_all k _ lt _ _

-- the rule is one of the book that is kept there
pub walk_chain-walk_rule-requires : goal.walk_chain-walk_rule-requires
walk_chain-walk_rule-requires t c =
    let k = c.requires in (
      omega arith,
      record {
        book = k.book;
        kept = k.kept;
        so = (in_total k.kept k.so c.loop-i-test.true, left_standing _ _ _ _ _ _ _ (c.loop-i.invariant k.book k.kept k.so) c.loop-i-test.true);
      },
    )

pub walk_chain-returns-in-Decides : goal.walk_chain-returns-in-Decides
walk_chain-returns-in-Decides t c =
    let a = c.args in let w = c.walk_rule in
    λ b k lt.
    left_ends a.s.now a.contents.now _ _ _ _ _ (c.loop-i.invariant b k lt) c.loop-i-test.true w.result
    (w.ensures b k (in_total k lt c.loop-i-test.true)) (decided c.in-Decides.verdict) (λ rest. ap (λ x. after x rest) c.in-Decides.is)
    ∙ walk_some b _ _ _ c.if-depth-eq0.false

pub walk_chain-returns-in-Leaves : goal.walk_chain-returns-in-Leaves
walk_chain-returns-in-Leaves t c =
    let a = c.args in let w = c.walk_rule in
    λ b k lt.
    left_ends a.s.now a.contents.now _ _ _ _ _ (c.loop-i.invariant b k lt) c.loop-i-test.true w.result
    (w.ensures b k (in_total k lt c.loop-i-test.true)) undecided (λ rest. ap (λ x. after x rest) c.in-Leaves.is) ∙ walk_some b _ _ _ c.if-depth-eq0.false

pub walk_chain-loop-i-preserved : goal.walk_chain-loop-i-preserved
walk_chain-loop-i-preserved t c =
    let a = c.args in let w = c.walk_rule in
    λ b k lt.
    left_on a.s.now a.contents.now _ _ _ _ _ (c.loop-i.invariant b k lt) c.loop-i-test.true w.result (w.ensures b k (in_total k lt c.loop-i-test.true)) c.in-GoesOn.is

pub walk_chain-returns : goal.walk_chain-returns
walk_chain-returns t c = λ b k lt. left_none _ _ _ _ _ _ _ (c.loop-i.invariant b k lt) c.loop-i-test.false ∙ walk_some b _ _ _ c.if-depth-eq0.false

pub walk_rule-returns-then-ne : goal.walk_rule-returns-then-ne
walk_rule-returns-then-ne t c =
    let a = c.args in let v = c.eval_expression-seen in let ne : v.result.held.value ≡ Yes → ⊥ = search rules in
    rule_passes a.s.now a.answers.now a.p a.contents.now a.rule.0 a.depth _ c.asking.ensures v.result v.ensures ne

pub walk_rule-returns-in-Accept : goal.walk_rule-returns-in-Accept
walk_rule-returns-in-Accept t c =
    let a = c.args in let v = c.eval_expression-seen in let yes : v.result.held.value ≡ Yes = search rules in
    rule_acts a.s.now a.answers.now a.p a.contents.now a.rule.0 a.depth _ c.asking.ensures v.result v.ensures yes
    _ c.in-Accept.is (Decides verdict.Accept) (λ run rest. refl)

pub walk_rule-returns-in-Drop : goal.walk_rule-returns-in-Drop
walk_rule-returns-in-Drop t c =
    let a = c.args in let v = c.eval_expression-seen in let yes : v.result.held.value ≡ Yes = search rules in
    rule_denies a.s.now a.answers.now a.p a.contents.now a.rule.0 a.depth _ c.asking.ensures v.result v.ensures yes c.in-Drop.is

pub walk_rule-returns-in-Return : goal.walk_rule-returns-in-Return
walk_rule-returns-in-Return t c =
    let a = c.args in let v = c.eval_expression-seen in let yes : v.result.held.value ≡ Yes = search rules in
    rule_acts a.s.now a.answers.now a.p a.contents.now a.rule.0 a.depth _ c.asking.ensures v.result v.ensures yes _ c.in-Return.is Leaves (λ run rest. refl)

pub walk_rule-walk_chain-requires : goal.walk_rule-walk_chain-requires
walk_rule-walk_chain-requires t c =
    let k = c.requires in let d = k.kept.charted in (
      omega arith,
      record {
        book = k.book;
        kept = k.kept;
        so = omega (arith, d.count, d.shape.known c.args.rule.0 c.in-Call.chain.0 (omega (arith, k.so.0, d.total)) (ap said c.in-Call.is));
      },
    )

pub walk_rule-returns-in-Some : goal.walk_rule-returns-in-Some
walk_rule-returns-in-Some t c =
    let a = c.args in let v = c.eval_expression-seen in let w = c.walk_chain in let yes : v.result.held.value ≡ Yes = search rules in
    rule_calls a.s.now a.answers.now a.p a.contents.now a.rule.0 a.depth _ c.asking.ensures v.result v.ensures yes c.in-Call.chain c.in-Call.is w.result w.ensures
    (Decides c.in-Some.verdict) (λ rest. ends c.in-Some.verdict rest ∙ ap (λ o. or_else (outcome_of o) rest) (sym c.in-Some.is))
