-- `rules::bounds` meets its contract: where the contents say. Assumes nothing.
use Rattle.rules.proofs.Laws.{bounds_none, bounds_at}
use Rattle.rules.proofs.bounds.Goals as goal

pub returns-then-contents-i : goal.returns-then-contents-i
returns-then-contents-i c = λ s b e q. rw c.at.ensures (bounds_none s b e _ q _ c.if-contents-i.true)

pub returns : goal.returns
returns c = λ s b e q. bounds_at s b e _ q _ c.if-contents-i.false
