-- A byte, and the number behind it.
use native.Mathlib.Omega.{arith}
use lib.ListN.{length-set}
use mathlib.Core.Path.{◌∙◌}
use Rattle.text.proofs.Appends.{nothing, byte, then, puts_length}
use Rattle.text.proofs.put_part.Goals as goal

pub put_decimal-requires : goal.put_decimal-requires
put_decimal-requires c = simp length-set (omega (arith, c.requires))

pub shape_of-buf : goal.shape_of-buf
shape_of-buf c = puts_length c.put_decimal.ensures ∙ length-set c.args.buf.now c.args.at 46

pub returns : goal.returns
returns c =
    then (byte 46 (nothing c.args.buf.now c.args.at (omega (arith, c.requires))) (omega (arith, c.requires))) c.put_decimal.ensures
