-- Two answers that meet the statement of the report are equal, and so are the text and the words after it.
use mathlib.Core.List.{List}
use mathlib.Core.Path.{◌≡◌, sym, ◌∙◌}
use Prim.Native.Nat.{ℕ}
use lib.ListN.{length}
use Rattle.model.specs.Report.{report}
use Rattle.model.specs.Entries.{words_after}
use Rattle.report.specs.Reports.{report_entry, answer_of, text_after}
use Rattle.std.specs.Prelude.{Result}
use Rattle.refusals.specs.declared.Refusal.{Refusal}
use Rattle.refusals.specs.Refusals.{told}
use Rattle.refusals.proofs.Unique.{one_told}

-- what `report` ensures of its answer, the text and the words
pub record Meets (book plan words text : List ℕ) (r : Result ℕ Refusal) (words' text' : List ℕ) : Type 0 where
  pub answer : told r ≡ answer_of (report book plan (length words)) (length text)
  pub text_is : text' ≡ text_after (report book plan (length words)) text
  pub lent : words' ≡ words_after (report_entry book plan (length words)) book words

pub report_unique : {book plan words text : List ℕ} {r r' : Result ℕ Refusal} {w w' t t' : List ℕ} → Meets book plan words text r w t → Meets book plan words text r' w' t' →
    (r ≡ r') × (t ≡ t') × (w ≡ w')
report_unique {r = r} {r' = r'} p q = (one_told r r' (p.answer ∙ sym q.answer), p.text_is ∙ sym q.text_is, p.lent ∙ sym q.lent)
