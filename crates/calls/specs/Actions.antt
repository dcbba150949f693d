-- A chain's rules by their actions alone, as book's Contents note them: what they call, what they weigh.
use Rattle.std.specs.Prelude.{ℕ, zero, suc, ◌+◌, ◌<◌, ◌≡◌, Bool, false, ◌||◌, List, [], ◌∷◌, map, length, eqb}
use Rattle.model.specs.Calls.{chain_of, called, any, weigh_called}
use Rattle.model.specs.Tree.{Rule, Book, Action}
use Rattle.book.specs.Contents.{Shape, action_at, first_of, rules_in}
use Rattle.book.specs.declared.Contents.{Contents}

-- the actions of n rules from number i on
unfoldable pub actions_at : Contents → ℕ → ℕ → List Action
actions_at k i zero = []
actions_at k i (suc n) = action_at k i ∷ actions_at k (suc i) n

-- the actions that the contents say are those of b; book's Charted says this and more
pub record Actions (b : Book) (k : Contents) : Type 0 where
  pub shape : Shape k
  pub count : length b.chains ≡ k.chains
  pub actions : (c : ℕ) → c < k.chains → map (λ (r : Rule). r.action) (chain_of b c) ≡ actions_at k (first_of k c) (rules_in k c)

-- one of n rules from number i on calls d
unfoldable pub calls_at : Contents → ℕ → ℕ → ℕ → Bool
calls_at k d i zero = false
calls_at k d i (suc n) = any (λ e. eqb e d) (called (action_at k i)) || calls_at k d (suc i) n

-- chain c calls d
abbrev pub calls_in : Contents → ℕ → ℕ → Bool
calls_in k c d = calls_at k d (first_of k c) (rules_in k c)

-- one for each of n rules from number i on, and for a call what w gives the called chain
unfoldable pub weigh_at : Contents → (ℕ → ℕ) → ℕ → ℕ → ℕ
weigh_at k w i zero = 0
weigh_at k w i (suc n) = suc (weigh_called w (called (action_at k i)) + weigh_at k w (suc i) n)
