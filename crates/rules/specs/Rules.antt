-- Where a rule by number stands in its book. Definitions only.
use Rattle.std.specs.Prelude.{Result, ℕ, ◌-◌, List, take, drop}
use Rattle.model.specs.Answer.{Answer, fine, ◌>>=◌}
use Rattle.model.specs.Tree.{Book, rules_of}
use Rattle.model.specs.Calls.{readable}
use Rattle.model.specs.Entries.{rule_of}
use Rattle.refusals.specs.Refusals.{told_as}
use Rattle.refusals.specs.declared.Refusal.{Refusal}
use Rattle.rules.specs.declared.RuleBytes.{RuleBytes}

-- the first of its bytes, and the first behind them
pub record Bounds : Type 0 where
  pub start : ℕ
  pub end : ℕ

-- of a book that was read: or 17
abbrev pub bounds_in : Book → ℕ → Answer Bounds
bounds_in b number = do
  r ← rule_of number (rules_of b)
  fine (record { start = r.place; end = r.next })

-- refusals 1 to 10, then 17
unfoldable pub rule_bounds : List ℕ → ℕ → Answer Bounds
unfolding readable rule_of
rule_bounds book number = do
  b ← readable book
  bounds_in b number

-- the answer as bounds
abbrev pub bounds_of : RuleBytes → Bounds
bounds_of r = record { start = r.start; end = r.end }

abbrev pub bounds_told : Result RuleBytes Refusal → Answer Bounds
bounds_told = told_as bounds_of

-- the bytes between the bounds
abbrev pub bytes_in : List ℕ → Answer Bounds → Answer (List ℕ)
bytes_in book a = do
  x ← a
  fine (take (x.end - x.start) (drop x.start book))
