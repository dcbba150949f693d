-- The text stands in its place, and the bytes before and behind it are as they were. Assumes nothing.
use Rattle.text.proofs.Appends.{text_put}
use Rattle.text.proofs.put_text.Goals as goal

pub returns : goal.returns
returns c = text_put c.args.buf.now c.args.at c.args.text.now _ c.requires c.copy_from_slice.ensures.after
