-- A rule by its number, and where its own bytes of the book stand.
use Rattle.std.specs.Prelude.{ℕ, ◌≤◌, ◌<◌, List, ◌≡◌, length, get_or}
use Rattle.model.specs.Tree.{place_of, Rule, Book, rules_of}
use Rattle.model.specs.Tree.Expr.{always}
use Rattle.model.specs.Tree.Action.{accept}
use Rattle.model.specs.Standing.{RuleStands}

-- each of its fields is 0, as in the slots that are not used
abbrev pub no_rule : Rule
no_rule = record { number = 0; place = 0; action = accept; match = always 0; next = 0 }

abbrev pub rule_at : Book → ℕ → Rule
rule_at b i = get_or (rules_of b) i no_rule

-- rule i of b starts and ends at these places of s, its expression starts at the middle one and stands up to the end
pub record Owned (s : List ℕ) (b : Book) (i place expression end : ℕ) : Type 0 where
  pub number : (rule_at b i).number ≡ i
  pub starts : (rule_at b i).place ≡ place
  pub match : place_of (rule_at b i).match ≡ expression
  pub ends : (rule_at b i).next ≡ end
  pub before : place < expression
  pub past : expression < end
  pub inside : end ≤ length s
  pub stands : RuleStands s (rule_at b i)
