-- The chains below c that are in their own set.
use Rattle.std.proofs.Common.{◌<◌, sym, ◌∙◌, arith}
use Rattle.calls.specs.Sets.{in_row}
use Rattle.calls.proofs.Rules.{own_none, own_in, own_out, own_all}
use Rattle.model.specs.Limits.{chains_most}
use Rattle.calls.proofs.looping.Goals as goal
use Rattle.calls.proofs.looping.Goals.{then-has, else-has}

pub loop-c-init : goal.loop-c-init
loop-c-init c = (omega arith, own_none c.args.sets.now)

pub with-loops-requires : goal.with-loops-requires
with-loops-requires c = (omega arith, c.loop-c.invariant.0)

pub loop-c-preserved : goal.loop-c-preserved
unfolding in_row
loop-c-preserved c =
    let s = c.args.sets.now in
    let lt : c.loop-c.c < chains_most = omega arith in
    let q = c.has.ensures in (
      elim c.if-has.branch [ then-has w ↦ omega arith | else-has w ↦ omega arith ],
      elim c.if-has.branch [
        | then-has w ↦ rw w.loops-is (own_in s c.loop-c.c c.loop-c.loops _ lt c.loop-c.invariant.1 (sym q ∙ w.if-has.true) w.with-loops.ensures.1)
        | else-has w ↦ rw w.loops-is (own_out s c.loop-c.c c.loop-c.loops lt c.loop-c.invariant.1 (sym q ∙ w.if-has.false))
      ],
    )

pub returns : goal.returns
returns c = (c.loop-c.invariant.0, own_all c.args.sets.now c.loop-c.c c.loop-c.loops (omega arith) c.loop-c.invariant.1)
