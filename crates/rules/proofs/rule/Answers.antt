-- `rules::rule` meets its contract: the part of the book where the rule stands. Assumes nothing.
use Rattle.rules.proofs.Laws.{part_none, part_at, part_inside}
use Rattle.rules.proofs.rule.Goals as goal

pub slice_bounds-result-count : goal.slice_bounds-result-count
slice_bounds-result-count c = (part_inside _ _ _ c.rule_reading.ensures.entry _ c.in-Ok.is c.rule_reading.ensures.stands).0

pub slice_bounds-result-start : goal.slice_bounds-result-start
slice_bounds-result-start c = (part_inside _ _ _ c.rule_reading.ensures.entry _ c.in-Ok.is c.rule_reading.ensures.stands).0

pub slice_bounds-result-end : goal.slice_bounds-result-end
slice_bounds-result-end c = (part_inside _ _ _ c.rule_reading.ensures.entry _ c.in-Ok.is c.rule_reading.ensures.stands).1

pub returns-in-Ok : goal.returns-in-Ok
returns-in-Ok c = part_at _ _ _ c.rule_reading.ensures.entry _ c.in-Ok.is

pub returns-in-Err : goal.returns-in-Err
returns-in-Err c = part_none _ _ _ c.rule_reading.ensures.entry _ c.in-Err.is
