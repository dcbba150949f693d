-- A list in lent words, and its verdict. Definitions only.
use Rattle.std.specs.Prelude.{ℕ, Bool, List, ◌≡◌}
use Rattle.model.specs.Matching.{value}
use Rattle.model.specs.Unfolding.{ListRule, Listed, words_of}
use Rattle.model.specs.Verdict.{list_verdict}
use Rattle.model.specs.Standing.{Placed}
use Rattle.walks.specs.Packets.{packet_of, tactic_of, leaves_of}
use Rattle.walks.specs.declared.Packet.{Packet}
use Rattle.walks.specs.declared.Tactic.{Tactic}

-- the words are those of the list, and the expressions of its conditions stand in the bytes
pub record Lists (s words : List ℕ) (list : List ListRule) : Type 0 where
  pub are : words ≡ words_of list
  pub placed : Listed (Placed s) list

-- so it is of some list
pub record Listing (s words : List ℕ) : Type 0 where
  pub list : List ListRule
  pub lists : Lists s words list

-- the action of the first rule that is taken, as the list's words have it
abbrev pub ListSays : List ℕ → List ℕ → List ℕ → Packet → Bool → Tactic → ℕ → Type 0
ListSays s answers words p told tactic r =
    (list : List ListRule) → Lists s words list → r ≡ list_verdict (tactic_of tactic) (value (leaves_of told answers (packet_of p))) list
