-- `plan_run::place_of` is safe: the ports of an answer have slots. Assumes nothing.
use Rattle.std.specs.Prelude.{Ok}
use Rattle.std.proofs.Common.{refl}
use Rattle.plan.proofs.Charted.{answer_few}
use Rattle.plan_run.proofs.place_of.Goals as goal

pub port_index-requires : goal.port_index-requires
port_index-requires c = answer_few _ (Ok c.in_ok-contents.contents) c.in_ok-contents.ensures _ refl
