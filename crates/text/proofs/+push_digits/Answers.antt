-- The digits before the last are fewer, and the last goes behind them.
use Rattle.std.proofs.Common.{◌-◌, ◌/◌, sym, append-nil, append_assoc, refl, arith}
use Rattle.model.specs.Report.{digits}
use Rattle.text.proofs.Pushes.{no_digits, one_digit, last_digit}
use Rattle.text.proofs.+push_digits.Goals as goal
use Rattle.text.proofs.+push_digits.Goals.{then-x-ge10, else-x-ge10}

pub returns-then-n-eq0 : goal.returns-then-n-eq0
returns-then-n-eq0 g t c = rw (c.if-n-eq0.true, no_digits c.args.x) (sym (append-nil c.args.text.now.items))

pub returns : goal.returns
returns g t c =
    let a = c.args in
    elim c.if-x-ge10.branch [
      | then-x-ge10 w ↦ rw (c.push.ensures.items, w.text-is, w.push_digits.ensures, last_digit a.n a.x (omega (arith, c.if-n-eq0.false)) w.if-x-ge10.true)
          (append_assoc a.text.now.items (digits (a.n - 1) (a.x / 10)) _)
      | else-x-ge10 w ↦ rw (c.push.ensures.items, w.text-is, one_digit a.n a.x (omega (arith, c.if-n-eq0.false)) w.if-x-ge10.false) refl
    ]
