-- A number, and three more behind it, each after a dot.
use Prim.Native.Nat.{◌+◌, ◌≤◌, ◌/◌, ◌%◌}
use native.Mathlib.Omega.{arith}
use lib.ListN.{length}
use Rattle.text.proofs.Appends.{then, room_left, decimal_short}
use Rattle.text.proofs.put_dotted.Goals as goal

pub put_part-second-requires : goal.put_part-second-requires
put_part-second-requires c =
    let first : c.put_decimal-first.result + 33 ≤ length c.put_decimal-first.new.buf =
    room_left 10 33 c.put_decimal-first.ensures (decimal_short (c.args.x / 16777216)) c.requires in
    omega (arith, first)

pub put_part-third-requires : goal.put_part-third-requires
put_part-third-requires c =
    let first : c.put_decimal-first.result + 33 ≤ length c.put_decimal-first.new.buf =
    room_left 10 33 c.put_decimal-first.ensures (decimal_short (c.args.x / 16777216)) c.requires in
    let second : c.put_part-second.result + 22 ≤ length c.put_part-second.new.buf =
    room_left 11 22 c.put_part-second.ensures (omega (arith, decimal_short (c.args.x / 65536 % 256))) first in
    omega (arith, second)

pub put_part-requires : goal.put_part-requires
put_part-requires c =
    let first : c.put_decimal-first.result + 33 ≤ length c.put_decimal-first.new.buf =
    room_left 10 33 c.put_decimal-first.ensures (decimal_short (c.args.x / 16777216)) c.requires in
    let second : c.put_part-second.result + 22 ≤ length c.put_part-second.new.buf =
    room_left 11 22 c.put_part-second.ensures (omega (arith, decimal_short (c.args.x / 65536 % 256))) first in
    room_left 11 11 c.put_part-third.ensures (omega (arith, decimal_short (c.args.x / 256 % 256))) second

pub returns : goal.returns
returns c = then (then (then c.put_decimal-first.ensures c.put_part-second.ensures) c.put_part-third.ensures) c.put_part.ensures
