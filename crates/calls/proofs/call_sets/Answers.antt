-- The chains below c have their calls.
use Rattle.std.proofs.Common.{◌≡◌, ◌<◌, subst, arith}
use Rattle.calls.proofs.Graph.{calls_table}
use Rattle.calls.proofs.Tables.{empty}
use Rattle.calls.proofs.Rules.{Below, chain_step, below_none}
use Rattle.model.specs.Limits.{chains_most}
use Rattle.calls.proofs.call_sets.Goals as goal

pub loop-c-init : goal.loop-c-init
loop-c-init c = (empty, below_none c.args.contents.now)

pub add_calls-requires : goal.add_calls-requires
add_calls-requires c = (c.requires, omega arith, c.loop-c.invariant.0)

pub loop-c-preserved : goal.loop-c-preserved
loop-c-preserved c =
    let lt : c.loop-c.c < chains_most = omega (arith, c.requires.few) in
    (c.add_calls.ensures.fit, chain_step c.args.contents.now c.loop-c.c c.loop-c.sets _ lt c.loop-c.invariant.1 c.add_calls.ensures)

pub returns : goal.returns
returns c =
    let k = c.args.contents.now in
    let e : c.loop-c.c ≡ k.chains = omega arith in
    (c.loop-c.invariant.0, λ b acts. calls_table acts c.loop-c.sets (subst (λ n. Below k n c.loop-c.sets) e c.loop-c.invariant.1))
