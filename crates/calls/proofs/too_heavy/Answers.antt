-- The weight of the entry, up to one more than the limit, tells whether it is above.
use Rattle.std.proofs.Common.{length, get_or}
use Rattle.model.specs.Calls.{weight}
use Rattle.calls.proofs.Levels.{same_ranks, too_heavy}
use Rattle.calls.proofs.Graph.{ranked, weighing}
use Rattle.calls.specs.Weights.{rank_in}
use Rattle.calls.proofs.too_heavy.Goals as goal

pub returns : goal.returns
returns c = λ b acts all free.
    let r = c.ranks-order in
    let by = weighing acts free (same_ranks (rank_in r.result) c.requires r.ensures (ranked acts c.args.sets.now all free)) in
    too_heavy (weight (length b.chains) b 0) (get_or c.weights.result 0 0) (c.weights.ensures (weight (length b.chains) b) by 0 c.requires.some)
