-- Needs up to the greatest that a book may have: above it, that one stands for all.
use Rattle.std.specs.Prelude.{ℕ, ◌+◌, ◌*◌, ◌≤◌, ◌<◌, min, ◌≡◌, List, get_or}
use Rattle.model.specs.Limits.{weight_most}
use Rattle.book.specs.Contents.{first_of, rules_in}
use Rattle.book.specs.declared.Contents.{Contents}
use Rattle.calls.specs.Actions.{actions_at}
use Rattle.calls.specs.Weights.{Ranked, CallAt}
use Rattle.room.specs.declared.Need.{Need}
use Rattle.room.specs.Counting.{counted, nothing}

-- a chain of weight w puts in at most w rules, each of three words and at most w conditions
abbrev pub need_most : ℕ
need_most = weight_most * (weight_most + 3)

abbrev pub capped : ℕ → ℕ
capped n = min n need_most

abbrev pub least : Need → Need
least n = record { rules = capped n.rules; words = capped n.words }

pub record Small (n : Need) : Type 0 where
  pub rules : n.rules ≤ need_most
  pub words : n.words ≤ need_most

-- what is kept of each chain
abbrev pub kept : List Need → ℕ → Need
kept needs c = get_or needs c nothing

pub record Kept (needs : List Need) : Type 0 where
  pub small : (c : ℕ) → Small (kept needs c)

-- of the chains that c calls g has what f says
abbrev pub Known : Contents → (f g : ℕ → Need) → ℕ → Type 0
Known k f g c = (i d : ℕ) → CallAt k c i d → g d ≡ least (f d)

-- f counts each chain by those that it calls, and the calls rank
pub record Counting (k : Contents) (rank : ℕ → ℕ) (f : ℕ → Need) : Type 0 where
  pub ranked : Ranked k rank
  pub recursive : (c : ℕ) → c < k.chains → f c ≡ counted f 1 (actions_at k (first_of k c) (rules_in k c))

-- of the chains of a rank below the level g has what f says
abbrev pub Upto : ℕ → (ℕ → ℕ) → (ℕ → Need) → ℕ → (ℕ → Need) → Type 0
Upto chains rank f level g = (c : ℕ) → c < chains → rank c < level → g c ≡ least (f c)
