-- What was summed, with the weight of the rules from i on, is the weight of c, up to the limit.
use Rattle.std.proofs.Common.{◌≡◌, ℕ, ◌≤◌, ◌+◌, ◌<◌, sym, ap, ◌∙◌, arith}
use Rattle.model.specs.Calls.{called, weigh_called}
use Rattle.book.specs.Contents.{said, action_at, first_of, rules_in}
use Rattle.calls.specs.Weights.{capped, Weighed}
use Rattle.calls.proofs.Rules.{part_action, part_calls, silent, weigh_none, weigh_next}
use Rattle.calls.proofs.weigh.Goals as goal
use Rattle.calls.proofs.weigh.Goals.{in-Call, in_default}

pub bounds-weights-chain : goal.bounds-weights-chain
bounds-weights-chain c =
    let part = c.rules_of-rule-items.ensures in
    omega (arith, part_calls _ c.requires.0 _ _ c.requires.1 _ part.part (omega (arith, part.count)) _ c.in-Call.is, c.requires.0.few)

pub loop-rule-preserved : goal.loop-rule-preserved
loop-rule-preserved c =
    let s = c.args in
    let k = s.contents.now in
    let end = first_of k (s.c + 1) in
    let i = first_of k s.c + c.loop-rule.rule-index in
    let part = c.rules_of-rule-items.ensures in
    let lt : c.loop-rule.rule-index < rules_in k s.c = omega (arith, part.count) in
    let here = part_action k s.c _ _ part.part lt in
    let more : (w : ℕ → ℕ) → Weighed k w s.weights.now s.c → c.match-rule.more ≡ capped (weigh_called w (called (action_at k i))) = λ w h.
    elim c.match-rule.branch [
      | in-Call x ↦
          let calls = sym here ∙ ap said x.in-Call.is in
          x.more-is ∙ h i x.in-Call.chain.0 (record { from = omega arith; to = omega arith; calls = calls }) ∙ ap (λ a. capped (weigh_called w (called a))) (sym calls)
      | in_default x ↦ x.more-is ∙ ap (λ l. capped (weigh_called w l)) (sym (ap called (sym here) ∙ silent _ x.in_default.not-Call))
    ] in
    let l = c.loop-rule in
    (omega arith, λ w h. weigh_next k w i _ end l.sum c.match-rule.more _ (omega arith) (omega arith) (more w h) c.min-sum.ensures ∙ l.invariant.1 w h)

pub returns : goal.returns
returns c =
    let s = c.args in
    let k = s.contents.now in
    let l = c.loop-rule in
    let past : first_of k (s.c + 1) ≤ first_of k s.c + l.rule-index = omega (arith, c.rules_of-rule-items.ensures.count) in
    (l.invariant.0, λ w h. weigh_none k w _ _ l.sum past l.invariant.0 ∙ l.invariant.1 w h)
