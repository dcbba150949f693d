-- Warshall's relation is Reach.
use Rattle.calls.proofs.Graph.{closed_reached}
use Rattle.calls.proofs.reached.Goals as goal

pub returns : goal.returns
returns c = λ b k. closed_reached k c.call_sets-sets.result c.close.new.sets (c.call_sets-sets.ensures.1 b k) c.close.ensures
