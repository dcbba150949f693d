-- No bit set: no loop. Else the lowest set bit is the lowest loop.
use Rattle.std.proofs.Common.{arith}
use Rattle.calls.proofs.Graph.{no_loop, a_loop}
use Rattle.calls.proofs.lowest_loop.Goals as goal

pub returns-then-loops-eq0 : goal.returns-then-loops-eq0
returns-then-loops-eq0 c = λ b few all. no_loop b few c.args.sets.now all c.looping-loops.result c.looping-loops.ensures.1 c.if-loops-eq0.true

pub returns-else-loops-eq0 : goal.returns-else-loops-eq0
returns-else-loops-eq0 c = λ b few all. a_loop b few c.args.sets.now all c.looping-loops.result c.looping-loops.ensures.1 c.looping-loops.ensures.0 (omega arith)
