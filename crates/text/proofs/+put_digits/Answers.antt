-- The digits before the last are fewer, and the last goes behind them.
use Prim.Native.Nat.{ℕ, ◌+◌, ◌-◌, ◌≤◌, ◌<◌, ◌/◌}
use native.Mathlib.Omega.{arith}
use mathlib.Core.List.{List}
use lib.ListN.{length}
use Rattle.model.specs.Report.{digits}
use Rattle.text.specs.Puts.{Puts}
use Rattle.text.proofs.Appends.{no_digits, one_digit, last_digit, digits_short, puts_length}
use Rattle.text.proofs.+put_digits.Goals as goal

-- room for the last digit is left behind those before it
room : (w : List ℕ) (at n x m : ℕ) (w' : List ℕ) → 0 < n → at + n ≤ length w → Puts w at (digits (n - 1) (x / 10)) m w' → m < length w'
room w at n x m w' some h p = omega (arith, p.next, puts_length p, digits_short (n - 1) (x / 10))

pub returns-then-n-eq0 : goal.returns-then-n-eq0
returns-then-n-eq0 t c = let a = c.args in no_digits a.buf.now a.at a.n a.x c.if-n-eq0.true (omega (arith, c.requires))

pub returns-then-x-lt10 : goal.returns-then-x-lt10
returns-then-x-lt10 t c = let a = c.args in one_digit a.buf.now a.at a.n a.x (omega arith) c.if-x-lt10.true (omega (arith, c.requires))

pub bounds-buf-next : goal.bounds-buf-next
bounds-buf-next t c = let a = c.args in room a.buf.now a.at a.n a.x _ _ (omega arith) c.requires c.put_digits-next.ensures

pub returns : goal.returns
returns t c =
    let a = c.args in
    last_digit a.buf.now a.at a.n a.x _ _ (omega arith) c.if-x-lt10.false c.put_digits-next.ensures
    (room a.buf.now a.at a.n a.x _ _ (omega arith) c.requires c.put_digits-next.ensures)
