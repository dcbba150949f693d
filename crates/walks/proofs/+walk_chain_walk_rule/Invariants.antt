-- The measures of the cycle of calls {walk_chain, walk_rule}: the depth falls at each call, as it does in the model. And the loop over a chain's
-- rules: whatever book is kept there, the walk of the rules from i on is the chain's.
use Rattle.std.proofs.Common.{◌+◌, ◌-◌, ◌*◌}
use Rattle.model.specs.Tree.{Book}
use Rattle.model.specs.Calls.{chain_of}
use Rattle.model.specs.Chains.{walk}
use Rattle.model.specs.Matching.{matches}
use Rattle.walks.specs.Packets.{packet_of}
use Rattle.walks.specs.Walks.{Kept, HasChain}
use Rattle.walks.proofs.Walks.{Left}
use Rattle.walks.proofs.+walk_chain_walk_rule.Given as goal

abbrev pub decreases-walk_chain : goal.decreases-walk_chain
decreases-walk_chain l = 2 * l.depth

abbrev pub decreases-walk_rule : goal.decreases-walk_rule
decreases-walk_rule l = 2 * l.depth + 1

abbrev pub invariant-walk_chain-loop-i : goal.invariant-walk_chain-loop-i
invariant-walk_chain-loop-i l =
    (b : Book) → Kept l.s l.contents b → HasChain l.c b
    → Left l.s l.contents (walk (l.depth - 1) b (matches l.answers (packet_of l.p))) (matches l.answers (packet_of l.p)) (chain_of b l.c) l.i-end l.i
