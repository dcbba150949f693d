-- The lower ranks have their needs, and of this rank the chains below c.
use Prim.Native.Nat.{◌<◌}
use mathlib.Core.Path.{◌≡◌}
use lib.ListN.{length}
use Rattle.std.proofs.Common.{rules}
use native.Mathlib.Omega.{arith}
use Rattle.model.specs.Limits.{chains_most}
use Rattle.calls.specs.Weights.{rank_in}
use Rattle.room.specs.Capped.{kept}
use Rattle.room.proofs.Ranks.{level_done, calls_known, level_counted, level_skipped, stored, stored_there, stored_other, kept_stored}
use Rattle.room.proofs.count_rank.Goals as goal
use Rattle.room.proofs.count_rank.Goals.{then-ranks-c, else-ranks-c}

pub loop-c-preserved : goal.loop-c-preserved
loop-c-preserved c =
    let s = c.args in
    let k = s.contents.now in
    let rank = rank_in s.ranks.now in
    let old = c.loop-c.needs in
    let all = c.loop-c.invariant.0 in
    let size : length old ≡ chains_most = search rules in
    let lt : c.loop-c.c < k.chains = omega arith in
    let room : c.loop-c.c < chains_most = omega (arith, c.requires.0.few) in
    elim c.if-ranks-c.branch [
      | then-ranks-c x ↦
          let need = x.count_chain in
          rw x.needs-is (
            kept_stored old size c.loop-c.c need.result room all need.ensures.0,
            λ f by sh h.
                let lev = c.loop-c.invariant.1 f by sh h in
                level_counted k s.level sh rank f by (kept old) c.loop-c.c lt lev x.if-ranks-c.true need.result
                (need.ensures.1 f (calls_known k s.level sh rank f by (kept old) c.loop-c.c lt lev x.if-ranks-c.true))
                (stored old size c.loop-c.c need.result room) (stored_there old size c.loop-c.c need.result room) (stored_other old size c.loop-c.c need.result room),
          )
      | else-ranks-c x ↦
          rw x.needs-is (all, λ f by sh h. level_skipped k s.level sh rank f by (kept old) c.loop-c.c lt (c.loop-c.invariant.1 f by sh h) x.if-ranks-c.false)
    ]

pub returns : goal.returns
returns c =
    let s = c.args in (
      c.loop-c.invariant.0,
      λ f by h. level_done s.contents.now s.level c.requires.0 (rank_in s.ranks.now) f by (kept c.loop-c.needs) c.loop-c.c (omega arith) (c.loop-c.invariant.1 f by c.requires.0 h),
    )
