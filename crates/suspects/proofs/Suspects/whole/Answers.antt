-- `suspects::Suspects::whole` meets its contract: the empty set's slots, and one high end. Assumes nothing.
use Rattle.std.proofs.Common.{arith, refl, ap, slice_set}
use Rattle.suspects.proofs.Suspects.whole.Goals as goal

pub returns : goal.returns
returns c = let e = c.empty-whole.ensures in record { fits = omega arith; count = refl; low_is = e.low_is; high_is = ap (λ l. slice_set l 0 4294967295) e.high_is }
