-- `sweep::Rule::ask` meets its contract: where the packet's header is not known, what the conditions see is the port and the source. Assumes nothing.
use Rattle.sweep.proofs.Rule.ask.Goals as goal

pub returns : goal.returns
returns c = rw (← c.self.view_is) (record {
  ahead = (c.eval_conditions.ensures c.self.invariant.conditions c.self.invariant.are).on;
  value = c.eval_conditions.ensures;
})
