-- The ranks below the level have their needs; every rank is below the number of chains, so the entry has its own.
use native.Mathlib.Omega.{arith}
use lib.ListN.{length}
use Rattle.room.specs.Counting.{chain_need}
use Rattle.room.specs.Capped.{kept}
use Rattle.room.proofs.Exact.{list_need}
use Rattle.room.proofs.Ranks.{none_kept}
use Rattle.room.proofs.Recursive.{counting}
use Rattle.room.proofs.room.Goals as goal

pub loop-level-init : goal.loop-level-init
loop-level-init c = (none_kept, λ f by x l r. absurd (omega arith))

pub returns : goal.returns
returns c =
    let n = c.loop-level.invariant.0.small 0 in (
      omega (arith, n.rules),
      omega (arith, n.words),
      λ b k by p.
          list_need b p (kept c.loop-level.needs 0)
          (c.loop-level.invariant.1 (chain_need (length b.chains) b) (counting k p.free by) 0 c.requires.some (omega (arith, by.below 0 c.requires.some))),
    )
