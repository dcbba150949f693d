-- What the code's answers say of the model's readers. Definitions only.
use Rattle.std.specs.Prelude.{ℕ}
use Rattle.model.specs.Answer as answer
use Rattle.model.specs.Answer.{Answer, fine}
use Rattle.model.specs.Reader.{Stand, Read, got, refused, Reader, ◌>>=◌}
use Rattle.model.specs.Book.{within}
use Rattle.expressions.specs.declared.ExpressionRead.{ExpressionRead}

-- what the code hands back of a reading: all but the tree, and the count of rules, which no expression changes
abbrev pub noted : {A : Type 0} → Read A → Answer ExpressionRead
noted (got a st) = fine (record { next = st.at; sources = st.sources })
noted (refused n p) = answer.refused n p

abbrev pub stand : ℕ → ℕ → ℕ → Stand
stand at rules sources = record { at = at; rules = rules; sources = sources }

-- low and high, each up to a limit
abbrev pub twice : ℕ → Reader ℕ
twice most = do
  low ← within 0 most
  within 0 most
