-- `matching::eval_condition` meets its contract. Assumes nothing.
use Rattle.std.proofs.Common.{◌≡◌, ◌%◌, arith}
use Rattle.model.specs.Matching.{value}
use Rattle.matching.specs.Sight.{sight}
use Rattle.matching.proofs.eval_condition.Goals as goal

pub returns-then-word-eq1 : goal.returns-then-word-eq1
returns-then-word-eq1 c = λ e next h. let a = c.args in
    rw c.if-word-eq1.true (c.not.ensures (λ y. value (sight a.a.now a.answers.now y) e) a.source (c.eval_at-seen.ensures e next h).0)

pub returns-else-word-eq1 : goal.returns-else-word-eq1
returns-else-word-eq1 c = λ e next h. let even : c.args.word % 2 ≡ 0 = omega arith in rw even (c.eval_at-seen.ensures e next h).0
