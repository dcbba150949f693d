-- Which chain calls and reaches which: a table of sets against the model.
use Rattle.std.specs.Prelude.{ℕ, zero, suc, ◌<◌, ◌≡◌, ◌↔◌, true, ◌&&◌, ◌||◌, List, eqb}
use Rattle.model.specs.Calls.{chain_of, called, any_rule, any, Reach}
use Rattle.model.specs.Tree.{Book}
use Rattle.calls.specs.Sets.{Relation, in_row, Fit}
use Rattle.model.specs.Limits.{chains_most}

-- one of c's rules calls d
unfoldable pub calls : Book → Relation
unfolding any_rule
calls b c d = any_rule (λ r. any (λ e. eqb e d) (called r.action)) (chain_of b c)

-- c comes to d by a relation, with what is in between below k
unfoldable pub reach : Relation → ℕ → Relation
reach r zero c d = r c d
reach r (suc k) c d = reach r k c d || (reach r k c k && reach r k k d)

-- bit d of word c: c reaches d by one or more calls
pub record Reached (b : Book) (sets : List ℕ) : Type 0 where
  pub fit : Fit sets
  pub exactly : (c d : ℕ) → c < chains_most → d < chains_most → (in_row sets c d ≡ true) ↔ Reach b c d
