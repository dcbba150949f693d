-- TWO ANSWERS THAT MEET AN ENTRY'S STATEMENT ARE EQUAL, and so are the words that they leave. Assumes nothing.
use Rattle.std.proofs.Common.{ℕ, List, ◌≡◌, sym, ◌∙◌, length}
use Rattle.std.specs.Prelude.{Result}
use Rattle.model.specs.Answer.{Answer}
use Rattle.model.specs.Entries.{chain_entry, list_entry, closure_entry}
use Rattle.refusals.specs.declared.Refusal.{Refusal}
use Rattle.refusals.proofs.Unique.{one_answer}
use Rattle.book.specs.declared.Verdict.{Verdict}
use Rattle.book.specs.Contents.{verdict_number}
use Rattle.walks.specs.declared.Packet.{Packet}
use Rattle.walks.specs.declared.Tactic.{Tactic}
use Rattle.walks.specs.Packets.{packet_of, tactic_of}
use Rattle.walks.proofs.OneAnswer as walks
use Rattle.verdicts.specs.Verdicts.{verdict_told}
use Rattle.verdicts.proofs.Entries.{Meets}

pub one_verdict : (x y : Result Verdict Refusal) → verdict_told x ≡ verdict_told y → x ≡ y
one_verdict = one_answer verdict_number walks.one_verdict

module _ (book answers : List ℕ) (p : Packet) where
  pub one_chain_verdict : (x y : Result Verdict Refusal) → verdict_told x ≡ chain_entry book answers (packet_of p)
      → verdict_told y ≡ chain_entry book answers (packet_of p) → x ≡ y
  one_chain_verdict x y f g = one_verdict x y (f ∙ sym g)

-- of an entry that unfolds
one_meeting : (a : Answer ℕ) (book lent : List ℕ) (x y : Result Verdict Refusal) (w v : List ℕ) → Meets a book x lent w → Meets a book y lent v → (x ≡ y) × (w ≡ v)
one_meeting a book lent x y w v f g = (one_verdict x y (f.0 ∙ sym g.0), f.1 ∙ sym g.1)

module _ (book : List ℕ) (p : Packet) (lent : List ℕ) (x y : Result Verdict Refusal) (w v : List ℕ) where
  pub one_list_verdict : (answers : List ℕ) → Meets (list_entry book answers (packet_of p) (length lent)) book x lent w
      → Meets (list_entry book answers (packet_of p) (length lent)) book y lent v → (x ≡ y) × (w ≡ v)
  one_list_verdict answers = one_meeting (list_entry book answers (packet_of p) (length lent)) book lent x y w v

  pub one_closure : (tactic : Tactic) → Meets (closure_entry (tactic_of tactic) book (packet_of p) (length lent)) book x lent w
      → Meets (closure_entry (tactic_of tactic) book (packet_of p) (length lent)) book y lent v → (x ≡ y) × (w ≡ v)
  one_closure tactic = one_meeting (closure_entry (tactic_of tactic) book (packet_of p) (length lent)) book lent x y w v
