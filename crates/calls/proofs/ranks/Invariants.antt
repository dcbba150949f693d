-- The chains below c have their ranks.
use Rattle.std.proofs.Common.{◌≡◌, ℕ, ◌<◌, length, get_or}
use Rattle.calls.specs.Sets.{rank_of}
use Rattle.model.specs.Limits.{chains_most}
use Rattle.calls.proofs.ranks.Given as goal

abbrev pub invariant-loop-c : goal.invariant-loop-c
invariant-loop-c l = (length l.ranks ≡ chains_most) × ((x : ℕ) → x < l.c → get_or l.ranks x 0 ≡ rank_of l.sets x)
