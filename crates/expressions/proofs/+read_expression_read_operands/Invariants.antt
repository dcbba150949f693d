-- What falls in the cycle of calls is the bytes left: an expression's operands start past its kind, and an operand past the one before it.
-- `read_operands` reads its first operand where it starts itself, so its measure is one more than twice the bytes left. And the loop over operands.
use Rattle.std.proofs.Common.{◌≡◌, ℕ, ◌+◌, ◌-◌, ◌≤◌, length}
use Rattle.model.specs.Answer.{Answer}
use Rattle.model.specs.Reader.{each}
use Rattle.model.specs.Book.{expression}
use Rattle.expressions.specs.Told.{noted, stand}
use Rattle.expressions.specs.declared.ExpressionRead.{ExpressionRead}
use Rattle.expressions.proofs.+read_expression_read_operands.Given as goal

abbrev pub decreases-read_expression : goal.decreases-read_expression
decreases-read_expression l = (length l.s.now - l.at) + (length l.s.now - l.at)

abbrev pub decreases-read_operands : goal.decreases-read_operands
decreases-read_operands l = (length l.s.now - l.at) + (length l.s.now - l.at) + 1

-- What is read so far does not matter: what the operands left answer, all of them do.
abbrev pub invariant-read_operands-loop : goal.invariant-read_operands-loop
invariant-read_operands-loop l = record {
  ahead : l.fn.at ≤ l.read.next;
  rest : (r : Answer ExpressionRead)
      → ((rules j : ℕ) → r ≡ noted (each (l.count - l.counter) j (λ j. expression l.levels) l.s (stand l.read.next rules l.read.sources)))
      → (rules i : ℕ) → r ≡ noted (each l.count i (λ j. expression l.levels) l.s (stand l.fn.at rules l.fn.sources));
}
