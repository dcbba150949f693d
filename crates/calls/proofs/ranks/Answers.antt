-- The chains below c have their ranks.
use Rattle.std.proofs.Common.{ℕ, ◌∙◌, arith, length-set}
use Rattle.calls.proofs.Levels.{ranked_next}
use Rattle.calls.specs.Sets.{rank_of}
use Rattle.calls.proofs.ranks.Goals as goal

pub loop-c-preserved : goal.loop-c-preserved
loop-c-preserved c =
    let l = c.loop-c in
    let next = ranked_next l.ranks (rank_of c.args.sets.now) l.c c.rank.result (omega (arith, c.requires)) c.rank.ensures l.invariant.1 in
    (length-set {A = ℕ} l.ranks l.c c.rank.result ∙ l.invariant.0, next)

pub returns : goal.returns
returns c = λ x l. c.loop-c.invariant.1 x (omega arith)
