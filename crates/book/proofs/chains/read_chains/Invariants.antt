-- Some chains were read and charted, and with what is still to be read they are all.
use Rattle.book.proofs.ChainSteps.{ChainsBehind}
use Rattle.book.proofs.chains.read_chains.Given as goal

abbrev pub invariant-loop-c : goal.invariant-loop-c
invariant-loop-c l = ChainsBehind l.s l.at l.fn.contents l.contents l.read l.c
