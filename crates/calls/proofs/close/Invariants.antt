-- After k passes the table is the relation with what is in between below k.
use Rattle.calls.specs.Reached.{reach}
use Rattle.calls.specs.Sets.{in_row, Holds}
use Rattle.calls.proofs.close.Given as goal

abbrev pub invariant-loop-k : goal.invariant-loop-k
invariant-loop-k l = Holds l.sets (reach (in_row l.initial.sets) l.k)
