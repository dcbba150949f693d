-- `numbers::number_here` meets its contract: the same steps as in read_number, none of which can refuse. Assumes nothing.
use Rattle.std.proofs.Common.{◌-◌, length}
use Rattle.numbers.proofs.Known.{Reading}
use Rattle.numbers.proofs.number_here.Given as goal

abbrev pub invariant-loop-b : goal.invariant-loop-b
invariant-loop-b l = Reading l.s l.at l.value l.scale l.next l.b

abbrev pub decreases-loop-b : goal.decreases-loop-b
decreases-loop-b l = length l.s - l.next
