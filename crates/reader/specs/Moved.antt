-- What a reader finds, and where it then stands. Definitions only.
use Rattle.std.specs.Prelude.{ℕ, List, Result, Ok, Err}
use Rattle.model.specs.Answer.{Answer}
use Rattle.model.specs.Number.{number_at}
use Rattle.model.specs.Book.{expression}
use Rattle.refusals.specs.declared.Refusal.{Refusal}
use Rattle.numbers.specs.Told.{numbered}
use Rattle.numbers.specs.declared.Number.{Number}
use Rattle.expressions.specs.Told.{noted, stand}
use Rattle.expressions.specs.declared.ExpressionRead.{ExpressionRead}
use Rattle.reader.specs.declared.Reader.{Reader}

-- what the covered reader of expressions tells of a place
abbrev pub expression_at : (levels sources rules : ℕ) → List ℕ → ℕ → Answer ExpressionRead
expression_at levels sources rules s at = noted (expression levels s (stand at rules sources))

-- the place after what was asked for; a refusal leaves the place
abbrev pub past_number : ℕ → Result Number Refusal → ℕ
past_number at (Ok n) = n.next
past_number at (Err r) = at

abbrev pub past_expression : ℕ → Result ExpressionRead Refusal → ℕ
past_expression at (Ok e) = e.next
past_expression at (Err r) = at

-- what stands where a reader stands
abbrev pub number_from : Reader → Answer Number
number_from r = numbered r.at (number_at r.book.now r.at)

abbrev pub expression_from : (levels sources rules : ℕ) → Reader → Answer ExpressionRead
expression_from levels sources rules r = expression_at levels sources rules r.book.now r.at

-- the same book, at the place after an answer
abbrev pub moved_to : Reader → ℕ → Reader
moved_to r at = record { book = r.book; at = at }

abbrev pub after_number : Reader → Result Number Refusal → Reader
after_number r n = moved_to r (past_number r.at n)

abbrev pub after_expression : Reader → Result ExpressionRead Refusal → Reader
after_expression r e = moved_to r (past_expression r.at e)
