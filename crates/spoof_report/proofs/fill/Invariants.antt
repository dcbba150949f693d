-- What is filled lies within the bytes; each turn fills one more at least.
use Rattle.std.proofs.Common.{◌-◌, ◌≤◌, length}
use Rattle.spoof_report.proofs.fill.Given as goal

abbrev pub invariant-loop-n : goal.invariant-loop-n
invariant-loop-n g l = l.n ≤ length l.bytes

abbrev pub decreases-loop-n : goal.decreases-loop-n
decreases-loop-n g l = length l.bytes - l.n
