-- The packet that a verdict is asked for, what is known of its leaves, and what is done in doubt. Definitions only.
use Rattle.std.specs.Prelude.{ℕ, Bool, true, false, List, Some}
use Rattle.model.specs.Matching as model
use Rattle.model.specs.Matching.{Leaves, exact, doubtful}
use Rattle.model.specs.Verdict as verdict
use Rattle.matching.specs.declared.Asking.{Asking}
use Rattle.matching.specs.declared.Header.{Header}
use Rattle.walks.specs.declared.Packet.{Packet}
use Rattle.walks.specs.declared.Tactic.{Tactic}
use Rattle.walks.specs.declared.Tactic.TheVariants.{Upper, Lower}

abbrev pub packet_of : Packet → model.Packet
packet_of p = record { source = p.source; destination = p.destination; protocol = p.protocol; service = p.service; port = p.port }

abbrev pub header_of : Packet → Header
header_of p = record { destination = p.destination; protocol = p.protocol; service = p.service }

-- what the evaluator is asked besides the source: all of the packet, and the answers where they are told
abbrev pub asking_of : Packet → Bool → Asking
asking_of p told = record { port = p.port; header = Some (header_of p); told = told }

-- the exact verdict goes by the answers; a closure knows nothing of the unread matches
abbrev pub leaves_of : Bool → List ℕ → model.Packet → Leaves
leaves_of true answers p = exact answers p
leaves_of false answers p = doubtful p

-- whether a rule of this action is taken in doubt: by the upper closure, and by the lower
abbrev pub tactic_of : Tactic → ℕ → Bool
tactic_of Upper = verdict.upper
tactic_of Lower = verdict.lower
