-- What is gathered, with the calls of the rules from i on, is what chain c calls.
use Rattle.std.proofs.Common.{◌+◌, ◌&&◌, ◌||◌, eqb}
use Rattle.book.specs.Contents.{first_of}
use Rattle.calls.specs.Sets.{in_row, Fit}
use Rattle.calls.specs.Actions.{calls_in}
use Rattle.calls.proofs.Rules.{With}
use Rattle.calls.proofs.add_calls.Given as goal

abbrev pub invariant-loop-rule : goal.invariant-loop-rule
invariant-loop-rule l =
    Fit l.sets
    × With l.contents l.c (first_of l.contents (l.c + 1)) (first_of l.contents l.c + l.rule-index) l.sets (λ x e. in_row l.initial.sets x e || (eqb x l.c && calls_in l.contents l.c e))
