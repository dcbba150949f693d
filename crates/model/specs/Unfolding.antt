-- The unfolded list, and its words.
use Rattle.std.specs.Prelude.{ℕ, zero, suc, ◌+◌, ◌*◌, Bool, true, false, List, [], ◌∷◌, ◌++◌, length}
use Rattle.model.specs.Answer.{when}
use Rattle.model.specs.Calls.{chain_of}
use Rattle.model.specs.Tree.{Expr, place_of, Rule, Book, Action, Every}
use Rattle.model.specs.Tree.Action.{accept, drop, reject, log, empty, return, call}

pub record Condition : Type 0 where
  pub negated : Bool
  pub match : Expr

-- action: 0 accept, 1 drop
pub record ListRule : Type 0 where
  pub action : ℕ
  pub number : ℕ
  pub conditions : List Condition

abbrev pub Context : Type 0
Context = List Condition

-- of the match of every condition, and of every rule's
abbrev pub Conditions : (Expr → Type 0) → List Condition → Type 0
Conditions P = Every (λ c. P c.match)

abbrev pub Listed : (Expr → Type 0) → List ListRule → Type 0
Listed P = Every (λ r. Conditions P r.conditions)

abbrev pub holds : Rule → Context
holds r = record { negated = false; match = r.match } ∷ []

abbrev pub fails : Rule → Context
fails r = record { negated = true; match = r.match } ∷ []

-- what a rule puts into the list, under the conditions of its place
abbrev pub entered : (Context → ℕ → List ListRule) → Context → Rule → Action → List ListRule
entered run ctx r accept = record { action = 0; number = r.number; conditions = ctx ++ holds r } ∷ []
entered run ctx r drop = record { action = 1; number = r.number; conditions = ctx ++ holds r } ∷ []
entered run ctx r reject = record { action = 1; number = r.number; conditions = ctx ++ holds r } ∷ []
entered run ctx r log = []
entered run ctx r empty = []
entered run ctx r return = []
entered run ctx r (call c) = run (ctx ++ holds r) c

-- the conditions for what stands after a rule in its chain
abbrev pub past : Context → Rule → Action → Context
past ctx r accept = ctx
past ctx r drop = ctx
past ctx r reject = ctx
past ctx r log = ctx
past ctx r empty = ctx
past ctx r return = ctx ++ fails r
past ctx r (call c) = ctx

unfoldable pub unfold_rules : (Context → ℕ → List ListRule) → Context → List Rule → List ListRule
unfold_rules run ctx [] = []
unfold_rules run ctx (r ∷ rs) = entered run ctx r r.action ++ unfold_rules run (past ctx r r.action) rs

unfoldable pub unfold_chain : ℕ → Book → Context → ℕ → List ListRule
unfolding unfold_rules
unfold_chain zero b ctx c = []
unfold_chain (suc n) b ctx c = unfold_rules (unfold_chain n b) ctx (chain_of b c)

-- the whole list: the entry's rules, and last the policy under no condition
unfoldable pub list_of : Book → List ListRule
unfolding unfold_chain
list_of b = unfold_chain (length b.chains) b [] zero ++ (record { action = b.policy; number = b.total; conditions = [] } ∷ [])

abbrev pub condition_word : Condition → ℕ
condition_word c = 2 * place_of c.match + when c.negated 1 0

abbrev pub condition_words : List Condition → List ℕ
condition_words [] = []
condition_words (c ∷ cs) = condition_word c ∷ condition_words cs

unfoldable pub words_of : List ListRule → List ℕ
words_of [] = []
words_of (r ∷ rs) = r.action ∷ r.number ∷ length r.conditions ∷ (condition_words r.conditions ++ words_of rs)
