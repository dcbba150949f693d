-- One bit more: the law of `or` and of a power of two.
use Rattle.calls.proofs.Bits.{has_with, with_small}
use Rattle.calls.proofs.with.Goals as goal

pub returns : goal.returns
returns c = (with_small c.args.x c.args.d c.requires.0 c.requires.1, λ e. has_with c.args.x c.args.d e c.requires.0)
