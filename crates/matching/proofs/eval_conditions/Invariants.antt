-- The loop's invariant: whatever conditions the words are, those so far are seen.
use Rattle.std.proofs.Common.{List, take}
use Rattle.model.specs.Matching.{value}
use Rattle.model.specs.Unfolding.{Condition}
use Rattle.model.specs.Verdict.{conditions_value}
use Rattle.matching.specs.Sight.{sight, Sees}
use Rattle.matching.specs.Conditions.{WrittenAs}
use Rattle.matching.proofs.eval_conditions.Given as goal

abbrev pub invariant-loop-word : goal.invariant-loop-word
invariant-loop-word l =
    (cs : List Condition) → WrittenAs l.s l.conditions cs
    → Sees (λ y. conditions_value (value (sight l.a l.answers y)) (take l.word-index cs)) l.source l.held
