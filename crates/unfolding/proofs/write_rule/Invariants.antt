-- Behind the head stand the conditions that are copied so far.
use Rattle.unfolding.proofs.Entries.{Copied}
use Rattle.unfolding.proofs.write_rule.Given as goal

abbrev pub invariant-loop-i : goal.invariant-loop-i
invariant-loop-i l = Copied l.conditions l.at l.initial.words l.i l.words
