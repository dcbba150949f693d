-- The loop over the list's rules: whatever list is in the words, the verdict of the rest is the verdict of all.
use Rattle.std.proofs.Common.{List, length}
use Rattle.model.specs.Matching.{value}
use Rattle.model.specs.Unfolding.{ListRule}
use Rattle.walks.specs.Packets.{packet_of, leaves_of, tactic_of}
use Rattle.walks.specs.Lists.{Lists}
use Rattle.walks.proofs.Lists.{Rest}
use Rattle.walks.proofs.list_verdict.Given as goal

abbrev pub invariant-loop-rest : goal.invariant-loop-rest
invariant-loop-rest l =
    (list : List ListRule) → Lists l.s l.list list → Rest l.s l.rest (tactic_of l.tactic) (value (leaves_of l.told l.answers (packet_of l.p))) list

abbrev pub decreases-loop-rest : goal.decreases-loop-rest
decreases-loop-rest l = length l.rest
