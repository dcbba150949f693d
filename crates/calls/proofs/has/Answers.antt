-- A bit by shift and remainder is the definition itself.
use Rattle.std.proofs.Common.{refl}
use Rattle.calls.specs.Sets.{has}
use Rattle.calls.proofs.has.Goals as goal

pub returns : goal.returns
unfolding has
returns c = refl
