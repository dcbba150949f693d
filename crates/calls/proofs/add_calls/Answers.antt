-- What is gathered, with the calls of the rules from i on, is what chain c calls.
use Rattle.std.proofs.Common.{◌≤◌, ◌+◌, ◌<◌, ◌&&◌, ◌||◌, eqb, refl, sym, ap, add-zero, ◌∙◌, arith}
use Rattle.book.specs.Contents.{said, first_of, rules_in}
use Rattle.model.specs.Calls.{called}
use Rattle.calls.specs.Sets.{Relation, in_row}
use Rattle.calls.specs.Actions.{calls_in}
use Rattle.calls.proofs.Rules.{part_action, part_calls, silent, a_call, no_call, all_called}
use Rattle.calls.proofs.add_calls.Goals as goal
use Rattle.calls.proofs.add_calls.Goals.{in-Call, in_default}

pub loop-rule-init : goal.loop-rule-init
loop-rule-init c = rw add-zero (c.requires.2, λ x e lx le. refl)

pub add-requires : goal.add-requires
add-requires c =
    let part = c.rules_of-rule-items.ensures in
    let known = part_calls _ c.requires.0 _ _ c.requires.1 _ part.part (omega (arith, part.count)) _ c.in-Call.is in
    (c.loop-rule.invariant.0, omega (arith, c.requires.1, c.requires.0.few), omega (arith, known, c.requires.0.few))

pub loop-rule-preserved : goal.loop-rule-preserved
loop-rule-preserved c =
    let s = c.args in
    let k = s.contents.now in
    let end = first_of k (s.c + 1) in
    let r : Relation = λ x e. in_row s.sets.now x e || (eqb x s.c && calls_in k s.c e) in
    let i = first_of k s.c + c.loop-rule.rule-index in
    let part = c.rules_of-rule-items.ensures in
    let lt : c.loop-rule.rule-index < rules_in k s.c = omega (arith, part.count) in
    let here = part_action k s.c _ _ part.part lt in
    let l = c.loop-rule in
    elim c.match-rule.branch [
      | in-Call w ↦
          rw w.sets-is
          (w.add.ensures.fit, a_call k s.c end i _ (omega arith) (omega arith) l.sets r l.invariant.1 w.in-Call.chain.0 (sym here ∙ ap said w.in-Call.is) _ w.add.ensures)
      | in_default w ↦
          rw w.sets-is
          (l.invariant.0, no_call k s.c end i _ (omega arith) (omega arith) l.sets r l.invariant.1 (ap called (sym here) ∙ silent _ w.in_default.not-Call))
    ]

pub returns : goal.returns
returns c =
    let s = c.args in
    let k = s.contents.now in
    let l = c.loop-rule in
    let past : first_of k (s.c + 1) ≤ first_of k s.c + l.rule-index = omega (arith, c.rules_of-rule-items.ensures.count) in
    record { fit = l.invariant.0; bits = all_called k s.c _ _ past l.sets _ l.invariant.1 }
