-- The lower ranks have their weights, and of this rank the chains below c.
use Rattle.std.proofs.Common.{ℕ, ◌+◌, ◌<◌, List, sym, subst, arith}
use Rattle.calls.proofs.Levels.{Level, level_first, level_done, calls_weighed, level_weighed, level_skipped, capped_set}
use Rattle.calls.specs.Weights.{rank_in, AllCapped, Weighing, Upto}
use Rattle.book.specs.Contents.{Shape}
use Rattle.model.specs.Limits.{chains_most}
use Rattle.calls.proofs.weigh_rank.Goals as goal
use Rattle.calls.proofs.weigh_rank.Goals.{then-ranks-c, else-ranks-c}

pub loop-c-init : goal.loop-c-init
loop-c-init c = let s = c.args in (c.requires.1, λ w by sh h. level_first s.contents.now s.level sh (rank_in s.ranks.now) w by s.weights.now h)

pub weigh-requires : goal.weigh-requires
weigh-requires c = (c.requires.0, omega arith, c.loop-c.invariant.0)

pub loop-c-preserved : goal.loop-c-preserved
loop-c-preserved c =
    let s = c.args in
    let k = s.contents.now in
    let r = rank_in s.ranks.now in
    let lt : c.loop-c.c < k.chains = omega arith in
    let room : c.loop-c.c < chains_most = omega (arith, c.requires.0.few) in
    let Then : List ℕ → Type 0 = λ z. AllCapped z
    × ((w : ℕ → ℕ) (by : Weighing k r w) (sh : Shape k) → Upto k.chains r w s.level s.weights.now → Level k s.level sh r w by (c.loop-c.c + 1) z) in
    elim c.if-ranks-c.branch [
      | then-ranks-c x ↦
          subst Then (sym x.weights-is) (
            capped_set c.loop-c.weights c.loop-c.invariant.0 c.loop-c.c _ room x.weigh.ensures.0,
            λ w by sh h. let lev = c.loop-c.invariant.1 w by sh h in
                level_weighed k s.level sh r w by c.loop-c.weights c.loop-c.c lt lev c.loop-c.invariant.0 x.if-ranks-c.true _
                (x.weigh.ensures.1 w (calls_weighed k s.level sh r w by c.loop-c.weights c.loop-c.c lt lev x.if-ranks-c.true)),
          )
      | else-ranks-c x ↦
          subst Then (sym x.weights-is) (
            c.loop-c.invariant.0,
            λ w by sh h. level_skipped k s.level sh r w by c.loop-c.weights c.loop-c.c lt (c.loop-c.invariant.1 w by sh h) x.if-ranks-c.false,
          )
    ]

pub returns : goal.returns
returns c =
    let s = c.args in
    let done = level_done s.contents.now s.level c.requires.0 (rank_in s.ranks.now) in
    (c.loop-c.invariant.0, λ w by h. done w by c.loop-c.weights c.loop-c.c (omega arith) (c.loop-c.invariant.1 w by c.requires.0 h))
