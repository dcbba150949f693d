-- The chains below c have their calls.
use Rattle.calls.specs.Sets.{Fit}
use Rattle.calls.proofs.Rules.{Below}
use Rattle.calls.proofs.call_sets.Given as goal

abbrev pub invariant-loop-c : goal.invariant-loop-c
invariant-loop-c l = Fit l.sets × Below l.contents l.c l.sets
