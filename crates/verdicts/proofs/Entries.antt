-- What the entries answer and leave, from the book's reading on. Assumes nothing.
use Rattle.std.proofs.Common.{ℕ, Bool, true, false, List, ◌≡◌, refl, sym, ◌∙◌, ap, length}
use Rattle.std.specs.Prelude.{Result}
use Rattle.model.specs.Answer.{Answer, fine, refused}
use Rattle.model.specs.Tree.{Book}
use Rattle.model.specs.Calls.{readable}
use Rattle.model.specs.Matching.{Packet, matches}
use Rattle.model.specs.Chains.{chain_verdict}
use Rattle.model.specs.Entries.{answers_read, chain_entry, list_entry, closure_entry, words_after}
use Rattle.model.proofs.EntriesBehind.{chain_answers}
use Rattle.refusals.specs.declared.Refusal.{Refusal}
use Rattle.book.specs.declared.Verdict.{Verdict}
use Rattle.walks.specs.declared.Packet as walks
use Rattle.walks.specs.declared.Tactic.{Tactic}
use Rattle.walks.specs.declared.Tactic.TheVariants.{Upper}
use Rattle.walks.specs.Packets.{packet_of, tactic_of}
use Rattle.verdicts.specs.Verdicts.{verdict_told, decided, left, Decides}

-- what an entry that unfolds is to answer and to leave
abbrev pub Meets : Answer ℕ → List ℕ → Result Verdict Refusal → List ℕ → List ℕ → Type 0
Meets a s r before after = (verdict_told r ≡ a) × (after ≡ words_after a s before)

-- REFUSED: the book
module _ (s : List ℕ) (n q : ℕ) (e : readable s ≡ refused n q) (p : Packet) where
  pub chain_book : (answers : List ℕ) → refused n q ≡ chain_entry s answers p
  unfolding chain_entry
  chain_book answers = rw e

  pub list_book : (answers lent : List ℕ) → (refused n q ≡ list_entry s answers p (length lent)) × (lent ≡ words_after (list_entry s answers p (length lent)) s lent)
  unfolding list_entry
  list_book answers lent = (rw e, rw e)

  pub closure_book : (doubt : ℕ → Bool) (lent : List ℕ)
      → (refused n q ≡ closure_entry doubt s p (length lent)) × (lent ≡ words_after (closure_entry doubt s p (length lent)) s lent)
  unfolding closure_entry
  closure_book doubt lent = (rw e, rw e)

module _ (s : List ℕ) (b : Book) (e : readable s ≡ fine b) where
  -- the answers
  module _ (answers : List ℕ) (n q : ℕ) (a : refused n q ≡ answers_read answers) (p : Packet) where
    pub chain_wrong : refused n q ≡ chain_entry s answers p
    unfolding chain_entry
    chain_wrong = rw (e, ← a)

    pub list_wrong : (lent : List ℕ) → (refused n q ≡ list_entry s answers p (length lent)) × (lent ≡ words_after (list_entry s answers p (length lent)) s lent)
    unfolding list_entry
    list_wrong lent = (rw (e, ← a), rw (e, ← a))

  -- THE VERDICT
  pub chain_meets : (answers : List ℕ) (k : ℕ) → fine k ≡ answers_read answers → (p : Packet) (v : ℕ) → v ≡ chain_verdict b (matches answers p)
      → fine v ≡ chain_entry s answers p
  chain_meets answers k a p v t = ap (λ v. fine v) t ∙ sym (chain_answers s answers p b k e (sym a))

  left_after_lem : (lent : List ℕ) (a : Answer ℕ) → left a b lent ≡ words_after a s lent
  left_after_lem lent (fine v) = rw e
  left_after_lem lent (refused n q) = refl

  module _ (p : walks.Packet) (answers : List ℕ) (before : List ℕ) (r : Result Verdict Refusal) (after : List ℕ) where
    pub list_meets : (k : ℕ) → fine k ≡ answers_read answers → Decides true Upper answers p b before r after
        → Meets (list_entry s answers (packet_of p) (length before)) s r before after
    unfolding list_entry
    list_meets k a d = (rw (e, ← a) d.answer, rw (e, ← a) (d.lent ∙ left_after_lem before (decided true Upper answers p b (length before))))

    pub closure_meets : (tactic : Tactic) → Decides false tactic answers p b before r after
        → Meets (closure_entry (tactic_of tactic) s (packet_of p) (length before)) s r before after
    unfolding closure_entry
    closure_meets tactic d = (rw e d.answer, rw e (d.lent ∙ left_after_lem before (decided false tactic answers p b (length before))))
