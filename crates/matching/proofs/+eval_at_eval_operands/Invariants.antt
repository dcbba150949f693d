-- The measures of the cycle of calls {eval_at, eval_operands}: what is left of the bytes, and operands stand one above the expression that
-- stands first among them. And the loop over operands: whatever operands stand at its start, those so far are seen, and the rest stand where what is
-- seen ends.
use Rattle.std.proofs.Common.{◌≡◌, ℕ, ◌+◌, ◌-◌, ◌≤◌, length}
use Rattle.model.specs.Tree.{Exprs}
use Rattle.model.specs.Standing.{Operands, size}
use Rattle.matching.proofs.Inside.{Left}
use Rattle.matching.proofs.+eval_at_eval_operands.Given as goal

abbrev pub decreases-eval_at : goal.decreases-eval_at
decreases-eval_at l = (length l.s.now - l.at) + (length l.s.now - l.at)

abbrev pub decreases-eval_operands : goal.decreases-eval_operands
decreases-eval_operands l = (length l.s.now - l.at) + (length l.s.now - l.at) + 1

abbrev pub invariant-eval_operands-loop : goal.invariant-eval_operands-loop
invariant-eval_operands-loop l = record {
  ahead : l.fn.at ≤ l.seen.next;
  left : (es : Exprs) (next : ℕ) → size es ≡ l.count → Operands l.s l.at es next → Left l.a l.source l.s l.answers es next l.seen l.counter;
}
