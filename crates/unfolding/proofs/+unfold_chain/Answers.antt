-- Each turn of the loop is one rule of the chain, by the laws of Chain; a called chain has less depth.
use Prim.Native.Nat.{◌+◌}
use native.Mathlib.Omega.{arith}
use mathlib.Core.Logic.{inl, inr}
use mathlib.Core.Path.{refl, ap}
use Rattle.model.specs.Tree.Action.{accept, drop, reject, log, empty}
use Rattle.book.specs.Contents.{said}
use Rattle.unfolding.proofs.Chain.{Loop, met, loop_end, writable, wrote, passed, returned, call_pre, called}
use Rattle.unfolding.proofs.+unfold_chain.Goals as goal
use Rattle.unfolding.proofs.+unfold_chain.Goals.{in-Accept, in-Drop, in-Log, in-Return, in-Call}

pub write_rule-to-requires : goal.write_rule-to-requires
write_rule-to-requires t c =
    let a = c.args in let l = c.loop-i in
    writable a.contents.now a.chain.0 a.depth a.ctx.now a.n a.words.now a.at c.requires l.i l.m l.to l.ctx l.words l.invariant c.loop-i-test.true
    accept (ap said c.in-Accept.is) 0 refl refl

pub write_rule-to-requires-in-Drop : goal.write_rule-to-requires-in-Drop
write_rule-to-requires-in-Drop t c =
    let a = c.args in let l = c.loop-i in
    elim c.in-Drop.is [
      | inl e ↦ writable a.contents.now a.chain.0 a.depth a.ctx.now a.n a.words.now a.at c.requires l.i l.m l.to l.ctx l.words l.invariant c.loop-i-test.true drop (ap said e) 1 refl refl
      | inr e ↦ writable a.contents.now a.chain.0 a.depth a.ctx.now a.n a.words.now a.at c.requires l.i l.m l.to l.ctx l.words l.invariant c.loop-i-test.true reject (ap said e) 1 refl refl
    ]

pub unfold_chain-to-requires : goal.unfold_chain-to-requires
unfold_chain-to-requires t c =
    let a = c.args in let l = c.loop-i in (
      omega (arith, c.requires.deep),
      call_pre a.contents.now a.chain.0 a.depth a.ctx.now a.n a.words.now a.at c.requires l.i l.m l.to l.ctx l.words l.invariant c.loop-i-test.true c.in-Call.called.0 (ap said c.in-Call.is),
    )

pub loop-i-preserved : goal.loop-i-preserved
loop-i-preserved t c =
    let a = c.args in let l = c.loop-i in let q = c.loop-i-test.true in
    elim c.match-noted.branch [
      | in-Accept w ↦
          met (Loop a.contents.now a.chain.0 a.depth a.ctx.now a.n a.words.now a.at c.requires (l.i + 1))
          (wrote a.contents.now a.chain.0 a.depth a.ctx.now a.n a.words.now a.at c.requires l.i l.m l.to l.ctx l.words l.invariant q
          accept (ap said w.in-Accept.is) 0 refl refl _ _ w.write_rule-to.ensures.next w.write_rule-to.ensures.written w.write_rule-to.auto.words)
          w.m-is w.to-is w.ctx-is w.words-is
      | in-Drop w ↦
          met (Loop a.contents.now a.chain.0 a.depth a.ctx.now a.n a.words.now a.at c.requires (l.i + 1))
          (elim w.in-Drop.is [
            | inl e ↦ wrote a.contents.now a.chain.0 a.depth a.ctx.now a.n a.words.now a.at c.requires l.i l.m l.to l.ctx l.words l.invariant q drop (ap said e) 1 refl refl _ _ w.write_rule-to-in-Drop.ensures.next w.write_rule-to-in-Drop.ensures.written w.write_rule-to-in-Drop.auto.words
            | inr e ↦ wrote a.contents.now a.chain.0 a.depth a.ctx.now a.n a.words.now a.at c.requires l.i l.m l.to l.ctx l.words l.invariant q reject (ap said e) 1 refl refl _ _ w.write_rule-to-in-Drop.ensures.next w.write_rule-to-in-Drop.ensures.written w.write_rule-to-in-Drop.auto.words
          ])
          w.m-is w.to-is w.ctx-is w.words-is
      | in-Log w ↦
          met (Loop a.contents.now a.chain.0 a.depth a.ctx.now a.n a.words.now a.at c.requires (l.i + 1))
          (elim w.in-Log.is [
            | inl e ↦ passed a.contents.now a.chain.0 a.depth a.ctx.now a.n a.words.now a.at c.requires l.i l.m l.to l.ctx l.words l.invariant q log (ap said e) refl refl
            | inr e ↦ passed a.contents.now a.chain.0 a.depth a.ctx.now a.n a.words.now a.at c.requires l.i l.m l.to l.ctx l.words l.invariant q empty (ap said e) refl refl
          ])
          w.m-is w.to-is w.ctx-is w.words-is
      | in-Return w ↦
          met (Loop a.contents.now a.chain.0 a.depth a.ctx.now a.n a.words.now a.at c.requires (l.i + 1))
          (returned a.contents.now a.chain.0 a.depth a.ctx.now a.n a.words.now a.at c.requires l.i l.m l.to l.ctx l.words l.invariant q (ap said w.in-Return.is))
          w.m-is w.to-is w.ctx-is w.words-is
      | in-Call w ↦
          met (Loop a.contents.now a.chain.0 a.depth a.ctx.now a.n a.words.now a.at c.requires (l.i + 1))
          (called a.contents.now a.chain.0 a.depth a.ctx.now a.n a.words.now a.at c.requires l.i l.m l.to l.ctx l.words l.invariant q
          w.in-Call.called.0 (ap said w.in-Call.is) w.unfold_chain-to.ensures w.unfold_chain-to.auto.ctx w.unfold_chain-to.auto.words)
          w.m-is w.to-is w.ctx-is w.words-is
    ]

pub returns : goal.returns
returns t c =
    let a = c.args in let l = c.loop-i in
    loop_end a.contents.now a.chain.0 a.depth a.ctx.now a.n a.words.now a.at c.requires l.i l.m l.to l.ctx l.words l.invariant c.loop-i-test.false
