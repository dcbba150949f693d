-- What was summed, with the weight of the rules from i on, is the weight of c, up to the limit.
use Rattle.std.proofs.Common.{◌≡◌, ℕ, ◌+◌, ◌-◌, ◌≤◌}
use Rattle.book.specs.Contents.{first_of, rules_in}
use Rattle.calls.specs.Actions.{weigh_at}
use Rattle.calls.specs.Weights.{capped, Weighed}
use Rattle.calls.specs.Heavy.{heavy}
use Rattle.calls.proofs.weigh.Given as goal

abbrev pub invariant-loop-rule : goal.invariant-loop-rule
invariant-loop-rule l =
    let i = first_of l.contents l.c + l.rule-index in
    (l.sum ≤ heavy)
    × ((w : ℕ → ℕ) → Weighed l.contents w l.weights l.c
    → capped (l.sum + weigh_at l.contents w i (first_of l.contents (l.c + 1) - i)) ≡ capped (weigh_at l.contents w (first_of l.contents l.c) (rules_in l.contents l.c)))
