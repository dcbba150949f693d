-- `reader::read_pair` meets its contract: the reader is the book's, it stands at the number, and then behind it. Assumes nothing.
use Rattle.std.proofs.Common.{◌∙◌, ap, ℕ, List, Bor}
use Rattle.model.specs.Number.{number_at}
use Rattle.numbers.specs.Told.{numbered}
use Rattle.reader.specs.Moved.{expression_at, past_number, expression_from}
use Rattle.reader.proofs.read_pair.Goals as goal

pub returns-clause-number : goal.returns-clause-number
returns-clause-number c =
    c.next_number-number.ensures.answer ∙ ap (λ (b : Bor (List ℕ)). numbered c.args.at (number_at b.now c.args.at)) c.start-r.ensures.book

pub returns-clause-expression : goal.returns-clause-expression
returns-clause-expression c = λ rules.
    let a = c.args in
    let number = c.next_number-number in
    c.next_expression-expression.ensures.answer rules ∙ ap (expression_from a.levels a.sources rules) number.ensures.moved
    ∙ ap (λ (b : Bor (List ℕ)). expression_at a.levels a.sources rules b.now (past_number a.at number.result)) c.start-r.ensures.book
