-- Each answer is the model's.
use Rattle.std.proofs.Common.{ap, sym, ◌∙◌}
use Rattle.calls.proofs.Graph.{few_enough}
use Rattle.calls.proofs.Answers.{at_loop, too_much, enough, free_of}
use Rattle.calls.specs.Checked.{loop_of}
use Rattle.calls.proofs.check_calls.Goals as goal

pub returns-in-Some : goal.returns-in-Some
returns-in-Some c = λ b st k all. rw c.at.ensures (at_loop b st _ (ap loop_of (sym c.in-Some.is) ∙ c.lowest_loop.ensures b (few_enough k) all))

pub returns-then-too_heavy : goal.returns-then-too_heavy
returns-then-too_heavy c = λ b st k all.
    let e = ap loop_of (sym c.in_default.is) ∙ c.lowest_loop.ensures b (few_enough k) all in
    rw c.at-then-too_heavy.ensures (too_much b st e (sym (c.too_heavy.ensures b k all (free_of b st e)) ∙ c.if-too_heavy.true))

pub returns : goal.returns
returns c = λ b st k all.
    let e = ap loop_of (sym c.in_default.is) ∙ c.lowest_loop.ensures b (few_enough k) all in
    enough b st e (sym (c.too_heavy.ensures b k all (free_of b st e)) ∙ c.if-too_heavy.false)
