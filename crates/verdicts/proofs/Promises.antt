-- WHAT THE VERDICTS SAY OF EACH OTHER, whatever answers meet the entries' statements. Assumes nothing.
use Rattle.std.proofs.Common.{ℕ, List, ◌≡◌, sym, ◌∙◌, ap}
use Rattle.std.specs.Prelude.{Result, Ok}
use Rattle.model.specs.Answer.{fine}
use Rattle.model.specs.Entries.{chain_entry, list_entry, closure_entry}
use Rattle.model.proofs.Headline.{entry_as_chains, entry_encloses}
use Rattle.refusals.specs.declared.Refusal.{Refusal}
use Rattle.book.specs.declared.Verdict.{Verdict}
use Rattle.book.specs.declared.Verdict.TheVariants.{Accept, Drop}
use Rattle.walks.specs.declared.Packet.{Packet}
use Rattle.walks.specs.declared.Tactic.{Tactic}
use Rattle.walks.specs.declared.Tactic.TheVariants.{Upper, Lower}
use Rattle.walks.specs.Packets.{packet_of, tactic_of}
use Rattle.verdicts.specs.Verdicts.{verdict_told}
use Rattle.verdicts.proofs.Unique.{one_verdict}

-- upper favours accept, lower drop
abbrev pub favoured : Tactic → Verdict
favoured Upper = Accept
favoured Lower = Drop

module _ (book answers : List ℕ) (p : Packet) (lent : ℕ) (c : Result Verdict Refusal) (chains : verdict_told c ≡ chain_entry book answers (packet_of p)) where
  -- a list verdict that is no refusal is the chains'
  pub list_is_chains : (l : Result Verdict Refusal) → verdict_told l ≡ list_entry book answers (packet_of p) lent → (v : ℕ) → verdict_told l ≡ fine v → l ≡ c
  list_is_chains l list v e = one_verdict l c (e ∙ sym (entry_as_chains book answers (packet_of p) lent v (sym list ∙ e)) ∙ sym chains)

  -- a closure that is no refusal decides what it favours wherever the chains do, for any answers: so upper drops only what the chains
  -- drop, and lower accepts only what they accept
  pub closure_encloses : (tactic : Tactic) (u : Result Verdict Refusal) → verdict_told u ≡ closure_entry (tactic_of tactic) book (packet_of p) lent
      → (v : ℕ) → verdict_told u ≡ fine v → c ≡ Ok (favoured tactic) → u ≡ Ok (favoured tactic)
  closure_encloses Upper u closes v e k = one_verdict u (Ok Accept)
      (e ∙ ap (λ n. fine n) (entry_encloses book answers (packet_of p) lent 0 v (sym chains ∙ ap verdict_told k) (sym closes ∙ e)))
  closure_encloses Lower u closes v e k = one_verdict u (Ok Drop)
      (e ∙ ap (λ n. fine n) (entry_encloses book answers (packet_of p) lent 1 v (sym chains ∙ ap verdict_told k) (sym closes ∙ e)))
