-- After k passes the table is the relation with what is in between below k.
use Rattle.std.proofs.Common.{◌≡◌, ◌<◌, subst, arith}
use Rattle.calls.specs.Reached.{reach}
use Rattle.calls.specs.Sets.{in_row, Holds}
use Rattle.calls.proofs.Tables.{first_round, next_round}
use Rattle.model.specs.Limits.{chains_most}
use Rattle.calls.proofs.close.Goals as goal

pub loop-k-init : goal.loop-k-init
loop-k-init c = record { fit = c.requires.0; bits = λ x e lx le. first_round (in_row c.args.sets.now) x e }

pub pass-requires : goal.pass-requires
pass-requires c = (c.loop-k.invariant.fit, omega (arith, c.requires.1))

pub loop-k-preserved : goal.loop-k-preserved
loop-k-preserved c =
    let k : c.loop-k.k < chains_most = omega (arith, c.requires.1) in
    next_round (in_row c.args.sets.now) c.loop-k.k c.loop-k.sets c.pass.new.sets k c.loop-k.invariant c.pass.ensures

pub returns : goal.returns
returns c =
    let e : c.loop-k.k ≡ c.args.chains = omega arith in
    subst (λ n. Holds c.loop-k.sets (reach (in_row c.args.sets.now) n)) e c.loop-k.invariant
