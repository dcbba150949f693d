-- Weights up to the limit: above it, one more than the limit stands for all.
use Rattle.std.specs.Prelude.{ℕ, ◌+◌, ◌≤◌, ◌<◌, min, ◌≡◌, List, length, get_or}
use Rattle.model.specs.Tree.Action.{call}
use Rattle.book.specs.Contents.{action_at, first_of, rules_in}
use Rattle.book.specs.declared.Contents.{Contents}
use Rattle.calls.specs.Actions.{weigh_at}
use Rattle.model.specs.Limits.{chains_most}
use Rattle.calls.specs.Heavy.{heavy}

abbrev pub capped : ℕ → ℕ
capped n = min n heavy

pub record AllCapped (weights : List ℕ) : Type 0 where
  pub size : length weights ≡ chains_most
  pub most : (c : ℕ) → get_or weights c 0 ≤ heavy

-- rule i is one of chain c's, and calls d
pub record CallAt (k : Contents) (c i d : ℕ) : Type 0 where
  pub from : first_of k c ≤ i
  pub to : i < first_of k (c + 1)
  pub calls : action_at k i ≡ call d

-- the chains that c calls have their weights
abbrev pub Weighed : Contents → (ℕ → ℕ) → List ℕ → ℕ → Type 0
Weighed k w weights c = (i d : ℕ) → CallAt k c i d → get_or weights d 0 ≡ capped (w d)

abbrev pub rank_in : List ℕ → ℕ → ℕ
rank_in ranks c = get_or ranks c 0

-- a rank falls at each call, and is below the number of chains: the depth of what goes into called chains
pub record Ranked (k : Contents) (rank : ℕ → ℕ) : Type 0 where
  pub falls : (c i d : ℕ) → c < k.chains → CallAt k c i d → rank d < rank c
  pub below : (c : ℕ) → c < k.chains → rank c < k.chains

-- w weighs each chain by those it calls, and the calls rank
pub record Weighing (k : Contents) (rank w : ℕ → ℕ) : Type 0 where
  pub ranked : Ranked k rank
  pub recursive : (c : ℕ) → c < k.chains → w c ≡ weigh_at k w (first_of k c) (rules_in k c)

-- the chains of a rank below the level have their weights
abbrev pub Upto : ℕ → (ℕ → ℕ) → (ℕ → ℕ) → ℕ → List ℕ → Type 0
Upto chains rank w level weights = (c : ℕ) → c < chains → rank c < level → get_or weights c 0 ≡ capped (w c)
