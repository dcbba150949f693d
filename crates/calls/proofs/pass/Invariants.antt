-- The rows below a have taken k's set; k's own row does not change.
use Rattle.calls.specs.Sets.{in_row, Holds}
use Rattle.calls.proofs.Tables.{part}
use Rattle.calls.proofs.pass.Given as goal

abbrev pub invariant-loop-a : goal.invariant-loop-a
invariant-loop-a l = Holds l.sets (part (in_row l.initial.sets) l.k l.a)
