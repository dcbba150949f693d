-- `show::show` is safe: a checked book's contents are in use no further than their slots. Assumes nothing.
use Rattle.book_run.proofs.Few.{checked_few}
use Rattle.book_run.proofs.show.show.Goals as goal

pub whole-requires-clause-chains : goal.whole-requires-clause-chains
whole-requires-clause-chains c = (checked_few _ _ c.check.ensures c.in-Ok.checked c.in-Ok.is).0

pub whole-requires-clause-rules : goal.whole-requires-clause-rules
whole-requires-clause-rules c = (checked_few _ _ c.check.ensures c.in-Ok.checked c.in-Ok.is).1
