-- Two answers that meet the statement of an entry are equal.
use Rattle.std.specs.Prelude.{Result, Option}
use Rattle.std.proofs.Common.{◌≡◌, ℕ, List, sym, ◌∙◌}
use Rattle.model.specs.Plan.{plan_of}
use Rattle.refusals.specs.declared.Refusal.{Refusal}
use Rattle.refusals.specs.Refusals.{told}
use Rattle.refusals.proofs.Unique.{one_told}
use Rattle.plan.specs.declared.PlanContents.{PlanContents}
use Rattle.plan.specs.Contents.{plan_answer, asked}

pub read_plan_unique : (s : List ℕ) (a b : Result PlanContents Refusal) → told a ≡ plan_answer (plan_of s) → told b ≡ plan_answer (plan_of s) → a ≡ b
read_plan_unique s a b p q = one_told a b (p ∙ sym q)

pub port_index_unique : (number : List ℕ) (ports port : ℕ) (a b : Option ℕ) → a ≡ asked number port 0 ports → b ≡ asked number port 0 ports → a ≡ b
port_index_unique number ports port a b p q = p ∙ sym q
