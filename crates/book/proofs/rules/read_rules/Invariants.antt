-- Some rules were read and noted, and with what is still to be read they are all.
use Rattle.std.proofs.Common.{ℕ, length}
use Rattle.book.proofs.RuleSteps.{Behind}
use Rattle.book.proofs.rules.read_rules.Given as goal

abbrev pub invariant-loop-slot : goal.invariant-loop-slot
invariant-loop-slot l = (first rules : ℕ) → Behind l.chains l.s l.at l.sources (length l.fn.slots) first rules l.slot-items l.read l.slot-index
