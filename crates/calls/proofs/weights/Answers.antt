-- The ranks below the level have their weights; every rank is below the number of chains.
use Rattle.std.proofs.Common.{arith}
use Rattle.calls.proofs.Levels.{none_weighed}
use Rattle.calls.proofs.weights.Goals as goal

pub loop-level-init : goal.loop-level-init
loop-level-init c = (none_weighed, λ w by x l r. absurd (omega arith))

pub weigh_rank-requires : goal.weigh_rank-requires
weigh_rank-requires c = (c.requires, c.loop-level.invariant.0)

pub loop-level-preserved : goal.loop-level-preserved
loop-level-preserved c = (c.weigh_rank.ensures.0, λ w by. c.weigh_rank.ensures.1 w by (c.loop-level.invariant.1 w by))

pub returns : goal.returns
returns c = λ w by x lt. c.loop-level.invariant.1 w by x lt (omega (arith, by.ranked.below x lt))
