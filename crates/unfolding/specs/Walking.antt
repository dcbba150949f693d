-- What the functions that walk the chains rely on and do.
use Rattle.std.specs.Prelude.{ℕ, ◌+◌, ◌≤◌, ◌<◌, ◌≡◌, List, length, take}
use Rattle.model.specs.Limits.{book_bytes, rules_most}
use Rattle.model.specs.Filling.{put}
use Rattle.model.specs.Tree.Action.{call}
use Rattle.book.specs.Contents.{Shape, action_at, expression_at, first_of, rules_in}
use Rattle.book.specs.declared.Contents.{Contents}
use Rattle.unfolding.specs.Emitted.{chain_words}

-- there is room for a list rule with these conditions
pub record Writable (cs words : List ℕ) (at : ℕ) : Type 0 where
  pub few : length cs ≤ rules_most
  pub room : at + (length cs + 3) ≤ length words

-- After a rule that puts xs into the list and leaves the conditions cs: m' of ctx' are these, and the next list rule goes to `to`.
pub record Ruled (xs cs ctx : List ℕ) (m : ℕ) (words : List ℕ) (at m' to : ℕ) (ctx' words' : List ℕ) : Type 0 where
  pub count : to ≡ at + length xs
  pub written : words' ≡ put words at xs
  pub conditions : take m' ctx' ≡ cs
  pub kept : take m ctx' ≡ take m ctx
  pub more : m ≤ m'
  pub one : m' ≤ m + 1

-- rule i is one of chain c's
pub record RuleOf (k : Contents) (c i : ℕ) : Type 0 where
  pub chain : c < k.chains
  pub from : first_of k c ≤ i
  pub upto : i < first_of k (c + 1)

-- and calls d
pub record CallOf (k : Contents) (c i d : ℕ) : Type 0 where
  pub rule : RuleOf k c i
  pub calls : action_at k i ≡ call d

-- The contents can be walked, and no chain reaches itself: rank falls at each call, and so do the rules under a chain, those of the chains that it reaches.
pub record Ordered (k : Contents) : Type 0 where
  pub shape : Shape k
  pub near : (c i : ℕ) → RuleOf k c i → expression_at k i ≤ book_bytes
  pub rank : ℕ → ℕ
  pub under : ℕ → ℕ
  pub falls : (c i d : ℕ) → CallOf k c i d → rank d < rank c
  pub holds : (c i d : ℕ) → CallOf k c i d → rules_in k d + under d ≤ under c

-- Each rule adds one condition at most: the scratch holds those so far, and one for each rule of the chain and under it.
pub record ChainPre (k : Contents) (c depth : ℕ) (ctx : List ℕ) (n : ℕ) (words : List ℕ) (at : ℕ) : Type 0 where
  pub order : Ordered k
  pub there : c < k.chains
  pub deep : order.rank c < depth
  pub scratch : n + (rules_in k c + order.under c) ≤ length ctx
  pub few : length ctx ≤ rules_most
  pub room : at + length (chain_words k depth (take n ctx) c) ≤ length words

pub record ChainPost (k : Contents) (c depth : ℕ) (ctx : List ℕ) (n : ℕ) (words : List ℕ) (at to : ℕ) (ctx' words' : List ℕ) : Type 0 where
  pub count : to ≡ at + length (chain_words k depth (take n ctx) c)
  pub written : words' ≡ put words at (chain_words k depth (take n ctx) c)
  pub kept : take n ctx' ≡ take n ctx
