-- `reviewer::words::word` meets its contract. Assumes nothing.
use Rattle.std.proofs.Common.{◌∙◌}
use Rattle.reviewer.proofs.Laws.{told}
use Rattle.reviewer.proofs.words.word.Goals as goal

pub returns : goal.returns
returns c = c.unwrap_or.ensures ∙ told c.try_from.result c.args.x c.try_from.ensures
