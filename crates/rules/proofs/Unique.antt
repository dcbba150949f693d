-- TWO ANSWERS THAT MEET AN ENTRY'S STATEMENT ARE EQUAL. Assumes nothing.
use Rattle.std.proofs.Common.{◌≡◌, ℕ, List, sym, ap, ◌∙◌}
use Rattle.std.specs.Prelude.{Result}
use Rattle.model.specs.Entries.{rule_entry, part_of}
use Rattle.refusals.specs.declared.Refusal.{Refusal}
use Rattle.refusals.proofs.Unique.{one_answer}
use Rattle.rules.specs.Rules.{Bounds, bounds_of, bounds_told, rule_bounds}
use Rattle.rules.specs.declared.RuleBytes.{RuleBytes}

bytes_of : Bounds → RuleBytes
bytes_of b = record { start = b.start; end = b.end }

one_part : (a b : RuleBytes) → bounds_of a ≡ bounds_of b → a ≡ b
unfolding bytes_of
one_part a b e = ap bytes_of e

module _ (book : List ℕ) (number : ℕ) where
  pub one_reading : (x y : Result RuleBytes Refusal) → bounds_told x ≡ rule_bounds book number → bounds_told y ≡ rule_bounds book number → x ≡ y
  one_reading x y f g = one_answer bounds_of one_part x y (f ∙ sym g)

  pub one_rule : (x y : List ℕ) → x ≡ part_of (rule_entry book number) → y ≡ part_of (rule_entry book number) → x ≡ y
  one_rule x y f g = f ∙ sym g
