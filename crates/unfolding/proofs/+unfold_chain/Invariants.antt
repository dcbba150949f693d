-- Each turn of the loop is one rule of the chain; a called chain has less depth.
use Prim.Native.Nat.{◌-◌}
use Rattle.unfolding.specs.Emitted.{chain_words}
use Rattle.unfolding.proofs.Going.{Going}
use Rattle.unfolding.proofs.+unfold_chain.Given as goal

abbrev pub decreases-unfold_chain : goal.decreases-unfold_chain
decreases-unfold_chain l = l.depth

abbrev pub invariant-loop-i : goal.invariant-loop-i
invariant-loop-i l =
    Going l.contents (chain_words l.contents (l.depth - 1)) l.first l.end l.n l.at l.initial.ctx l.initial.words l.i l.m l.to l.ctx l.words
