-- The rows below a have taken k's set; k's own row does not change.
use Rattle.std.proofs.Common.{◌<◌, sym, ◌∙◌, arith}
use Rattle.calls.specs.Sets.{in_row}
use Rattle.calls.proofs.Tables.{joined, part_none, part_all, took, passed_by}
use Rattle.model.specs.Limits.{chains_most}
use Rattle.calls.proofs.pass.Goals as goal
use Rattle.calls.proofs.pass.Goals.{then-holds, else-holds}

pub loop-a-init : goal.loop-a-init
loop-a-init c = record { fit = c.requires.0; bits = λ x e lx le. sym (part_none (in_row c.args.sets.now) c.args.k x e) }

pub loop-a-preserved : goal.loop-a-preserved
loop-a-preserved c =
    let s = c.args in
    let o = in_row s.sets.now in
    let l = c.loop-a in
    let q = c.holds.ensures in
    let la : l.a < chains_most = omega arith in
    elim c.if-holds.branch [
      | then-holds w ↦ rw w.sets-is (took o s.k l.sets l.a la c.requires.1 l.invariant (sym q ∙ w.if-holds.true) _ (joined l.sets l.invariant.fit l.a s.k la))
      | else-holds w ↦ rw w.sets-is (passed_by o s.k l.sets l.a la c.requires.1 l.invariant (sym q ∙ w.if-holds.false))
    ]

pub returns : goal.returns
returns c =
    let s = c.args in
    record { fit = c.loop-a.invariant.fit; bits = λ x e lx le. c.loop-a.invariant.bits x e lx le ∙ part_all (in_row s.sets.now) s.k c.loop-a.a x e (omega arith) }
