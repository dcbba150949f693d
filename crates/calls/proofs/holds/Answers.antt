-- A row is the set of its chain.
use Rattle.calls.specs.Sets.{in_row}
use Rattle.calls.proofs.holds.Goals as goal

pub returns : goal.returns
unfolding in_row
returns c = c.has.ensures
