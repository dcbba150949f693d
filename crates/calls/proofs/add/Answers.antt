-- One store of a greater set.
use Rattle.std.proofs.Common.{eqb}
use Rattle.calls.proofs.Tables.{grown}
use Rattle.calls.specs.Sets.{in_row}
use Rattle.calls.proofs.add.Goals as goal

pub with-requires : goal.with-requires
with-requires c = (c.requires.2, c.requires.0.words c.args.c)

pub returns : goal.returns
unfolding in_row
returns c = grown c.args.sets.now c.requires.0 c.args.c c.with.result c.requires.1 c.with.ensures.0 (λ e. eqb e c.args.d) c.with.ensures.1
