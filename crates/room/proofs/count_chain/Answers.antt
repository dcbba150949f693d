-- What was counted, with the rules from here on, comes to the need of c, up to the most.
use Prim.Native.Nat.{suc, ◌+◌, ◌≤◌, ◌<◌}
use native.Mathlib.Omega.{arith}
use lib.ListN.{get_or}
use mathlib.Core.Path.{◌≡◌, sym, ap, ◌∙◌}
use Rattle.book.specs.Contents.{said, no_note, action_at, first_of, rules_in}
use Rattle.std.proofs.Common.{rules}
use Rattle.book.specs.declared.Action.TheVariants.{Return}
use Rattle.calls.proofs.Rules.{part_action, part_calls}
use Rattle.room.specs.declared.Need.{Need}
use Rattle.room.specs.Counting.{put, held_after}
use Rattle.room.specs.Capped.{kept}
use Rattle.room.proofs.Actions.{held_return, held_other}
use Rattle.room.proofs.Steps.{none_left, counted_rule}
use Rattle.room.proofs.count_chain.Goals as goal
use Rattle.room.proofs.count_chain.Goals.{then-eq, else-eq}

pub put_by-own-requires : goal.put_by-own-requires
put_by-own-requires c = λ d q.
    let k = c.args.contents.now in
    let part = c.rules_of-rule-items.ensures in
    omega (arith, part_calls k c.requires.0 c.args.c c.loop-rule.rule-index c.requires.1 _ part.part (omega (arith, part.count)) d q, c.requires.0.few)

pub loop-rule-preserved : goal.loop-rule-preserved
loop-rule-preserved c =
    let k = c.args.contents.now in
    let l = c.loop-rule in
    let held = c.if-eq.held in
    let i = first_of k c.args.c + l.rule-index in
    let part = c.rules_of-rule-items.ensures in
    let lt : l.rule-index < rules_in k c.args.c = omega (arith, part.count) in
    let does = (get_or c.rules_of-rule-items.result.now l.rule-index no_note).action in
    let here = part_action k c.args.c l.rule-index _ part.part lt in
    let after : Need = record { rules = c.min.result; words = c.min-in-loop-rule.result } in
    let next : (held ≡ held_after l.held (action_at k i)) × (1 ≤ held) × (held ≤ suc (l.rule-index + 1)) =
    elim c.if-eq.branch [
      | then-eq w ↦
          let is : does ≡ Return = search rules in
          (w.held-is ∙ held_return l.held (action_at k i) (sym here ∙ ap said is), omega (arith, w.held-is), omega (arith, w.held-is))
      | else-eq w ↦
          let not : does ≡ Return → ⊥ = search rules in
          (w.held-is ∙ held_other l.held does not ∙ ap (held_after l.held) here, omega (arith, w.held-is), omega (arith, w.held-is))
    ] in (
      next.1,
      next.2,
      record { rules = omega (arith, c.min.ensures); words = omega (arith, c.min-in-loop-rule.ensures) },
      λ f known.
          counted_rule k f (first_of k (c.args.c + 1)) i _ l.held (omega arith) (omega (arith, lt)) l.invariant.0 (kept c.args.needs.now) l.need c.put_by-own.result after
          (c.put_by-own.ensures ∙ ap (put (kept c.args.needs.now)) here) (λ d q. known i d (record { from = omega arith; to = omega arith; calls = q }))
          c.min.ensures c.min-in-loop-rule.ensures held next.0
          ∙ l.invariant.3 f known,
    )

pub returns : goal.returns
returns c =
    let k = c.args.contents.now in
    let l = c.loop-rule in
    let part = c.rules_of-rule-items.ensures in (
      l.invariant.2,
      λ f known. none_left k f (first_of k (c.args.c + 1)) l.held (first_of k c.args.c + l.rule-index) (omega (arith, part.count)) l.need l.invariant.2 ∙ l.invariant.3 f known,
    )
