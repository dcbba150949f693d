-- What the verdicts answer, and the lent words after them. Definitions only.
use Rattle.std.specs.Prelude.{ℕ, Bool, List, ◌≡◌, length, Result}
use Rattle.model.specs.Answer.{Answer, fine, refused, ◌>>=◌}
use Rattle.model.specs.Tree.{Book}
use Rattle.model.specs.Matching.{value}
use Rattle.model.specs.Verdict.{list_verdict}
use Rattle.model.specs.Entries.{room, filled}
use Rattle.refusals.specs.Refusals.{told_as}
use Rattle.refusals.specs.declared.Refusal.{Refusal}
use Rattle.book.specs.Contents.{verdict_number}
use Rattle.book.specs.declared.Verdict.{Verdict}
use Rattle.walks.specs.Packets.{packet_of, tactic_of, leaves_of}
use Rattle.walks.specs.declared.Packet.{Packet}
use Rattle.walks.specs.declared.Tactic.{Tactic}

-- the answer in document 01's numbers: 0 accept, 1 drop
abbrev pub verdict_told : Result Verdict Refusal → Answer ℕ
verdict_told = told_as verdict_number

-- the verdict of b's list, told the answers or not, where the lent words have room for it
abbrev pub decided : Bool → Tactic → List ℕ → Packet → Book → ℕ → Answer ℕ
decided told tactic answers p b lent = do
  list ← room lent b
  fine (list_verdict (tactic_of tactic) (value (leaves_of told answers (packet_of p))) list)

-- the lent words after it
abbrev pub left : Answer ℕ → Book → List ℕ → List ℕ
left (fine v) b lent = filled lent (fine b)
left (refused n p) b lent = lent

pub record Decides (told : Bool) (tactic : Tactic) (answers : List ℕ) (p : Packet) (b : Book) (before : List ℕ)
    (r : Result Verdict Refusal) (after : List ℕ) : Type 0 where
  pub answer : verdict_told r ≡ decided told tactic answers p b (length before)
  pub lent : after ≡ left (decided told tactic answers p b (length before)) b before
