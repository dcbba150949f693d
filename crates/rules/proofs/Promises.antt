-- WHAT THE PART AND THE READING BESIDE IT SAY OF EACH OTHER, whatever answers meet the entries' statements. Assumes nothing.
use Rattle.std.proofs.Common.{◌≡◌, ℕ, ◌-◌, List, [], take, drop, refl, sym, ap, ◌∙◌}
use Rattle.std.specs.Prelude.{Result, Ok, Err}
use Rattle.model.specs.Entries.{rule_entry, part_of}
use Rattle.model.proofs.RuleOwn.{rule_some}
use Rattle.refusals.specs.declared.Refusal.{Refusal}
use Rattle.rules.specs.Rules.{bounds_told, rule_bounds, bytes_in}
use Rattle.rules.specs.declared.RuleBytes.{RuleBytes}
use Rattle.rules.proofs.Laws.{bytes_own, part_none, part_at}

module _ (book : List ℕ) (number : ℕ) (part : List ℕ) (hands : part ≡ part_of (rule_entry book number))
    (y : Result RuleBytes Refusal) (stands : bounds_told y ≡ rule_bounds book number) where
  says : bytes_in book (bounds_told y) ≡ rule_entry book number
  says = ap (bytes_in book) stands ∙ bytes_own book number

  -- the part lies where the reading says
  pub part_stands : (r : RuleBytes) → y ≡ Ok r → part ≡ take (r.end - r.start) (drop r.start book)
  part_stands r is = hands ∙ sym (part_at book number y says r is)

  -- it is empty exactly where the reading refuses
  pub refused_empty : (e : Refusal) → y ≡ Err e → part ≡ []
  refused_empty e is = hands ∙ sym (part_none book number y says e is)

  pub empty_refused : part ≡ [] → (e : Refusal) × (y ≡ Err e)
  empty_refused none = go y refl
    where
      go : (x : Result RuleBytes Refusal) → y ≡ x → (e : Refusal) × (y ≡ Err e)
      go (Err e) is = (e, is)
      go (Ok r) is = absurd (rule_some book number (take (r.end - r.start) (drop r.start book))
          (sym says ∙ ap (λ x. bytes_in book (bounds_told x)) is) (sym (part_stands r is) ∙ none))
