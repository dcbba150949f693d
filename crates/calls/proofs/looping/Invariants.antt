-- The chains below c that are in their own set.
use Rattle.std.proofs.Common.{◌^◌, ◌<◌}
use Rattle.calls.proofs.Rules.{Own}
use Rattle.model.specs.Limits.{chains_most}
use Rattle.calls.proofs.looping.Given as goal

abbrev pub invariant-loop-c : goal.invariant-loop-c
invariant-loop-c l = (l.loops < 2 ^ chains_most) × Own l.sets l.c l.loops
