-- `suspects::is_rising` meets its contract. The invariant: what is left of the test decides it. Assumes nothing.
use Rattle.std.proofs.Common.{◌≡◌, length}
use Rattle.model.specs.Slices.{rising}
use Rattle.suspects.proofs.InWriting.{from}
use Rattle.suspects.proofs.is_rising.Given as goal

abbrev pub invariant-loop-from : goal.invariant-loop-from
invariant-loop-from l = rising 0 (from l.low l.high 0) ≡ rising l.least (from l.low l.high (length l.yielded))
