-- `plan_run::show` is safe: the ports of an answer have slots. Assumes nothing.
use Rattle.std.specs.Prelude.{Ok}
use Rattle.std.proofs.Common.{refl, arith}
use Rattle.plan.proofs.Charted.{answer_few}
use Rattle.plan_run.proofs.show.Goals as goal

pub offset_bounds-contents-contents : goal.offset_bounds-contents-contents
offset_bounds-contents-contents c = omega (arith, answer_few _ (Ok c.in-Ok.contents) c.in-Ok.ensures _ refl)

pub bounds-contents-contents : goal.bounds-contents-contents
bounds-contents-contents c = omega (arith, answer_few _ (Ok c.in-Ok.contents) c.in-Ok.ensures _ refl)
