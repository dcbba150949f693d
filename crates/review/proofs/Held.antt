-- A state in its one writing, with as many slots as its type says, tells its suspects. Assumes nothing.
use Rattle.std.proofs.Common.{◌≡◌, true, length}
use Rattle.model.specs.Limits.{spans_most}
use Rattle.model.specs.Slices.{in_writing}
use Rattle.suspects.proofs.Told.{Told, told}
use Rattle.review.specs.declared.State.{State}
use Rattle.review.specs.States.{state_of}

pub state_told : (s : State) → length s.suspects.low ≡ spans_most → length s.suspects.high ≡ spans_most → in_writing (state_of s) ≡ true → Told (state_of s)
state_told s low high e = told (state_of s) low high e
