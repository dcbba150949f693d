-- `review::beginning::port_suspects` meets its contract. Assumes nothing.
use Rattle.std.proofs.Common.{arith}
use Rattle.review.proofs.Starting.{port_ranges, port_outside}
use Rattle.review.proofs.beginning.port_suspects.Goals as goal

pub outside-requires-clause-ranges : goal.outside-requires-clause-ranges
outside-requires-clause-ranges c = port_ranges c.args.plan.now (omega arith) (omega arith) c.requires.shape c.args.i c.requires.known

pub returns : goal.returns
returns c = port_outside c.args.plan.now (omega arith) (omega arith) c.requires.shape c.args.i c.requires.known _ c.outside.ensures
