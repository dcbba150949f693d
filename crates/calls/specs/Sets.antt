-- Sets of chains as bits of words, and a table with one set for each chain. Only this file says where a set's bits lie.
use Rattle.std.specs.Prelude.{ℕ, ◌/◌, ◌%◌, ◌^◌, ◌<◌, ◌≡◌, Bool, ◌&&◌, ◌||◌, List, length, get_or, eqb}
use Rattle.std.specs.Int.Count.{ones}
use Rattle.model.specs.Limits.{chains_most}

abbrev pub bit : ℕ → ℕ → ℕ
bit x i = x / 2 ^ i % 2

-- i is in the set x
unfoldable pub has : ℕ → ℕ → Bool
has x i = eqb (bit x i) 1

-- d is in the set of c
unfoldable pub in_row : List ℕ → ℕ → ℕ → Bool
unfolding has
in_row sets c d = has (get_or sets c 0) d

abbrev pub Relation : Type 0
Relation = ℕ → ℕ → Bool

-- a table has the bits of a relation on the numbers of chains
abbrev pub Table : List ℕ → Relation → Type 0
Table sets r = (c d : ℕ) → c < chains_most → d < chains_most → in_row sets c d ≡ r c d

-- a word for each chain, with a bit for each
pub record Fit (sets : List ℕ) : Type 0 where
  pub size : length sets ≡ chains_most
  pub words : (c : ℕ) → get_or sets c 0 < 2 ^ chains_most

pub record Holds (sets : List ℕ) (r : Relation) : Type 0 where
  pub fit : Fit sets
  pub bits : Table sets r

-- what the table's own functions do to it
abbrev pub Added : ℕ → ℕ → List ℕ → List ℕ → Type 0
Added c d before after = Holds after (λ x e. in_row before x e || (eqb x c && eqb e d))

abbrev pub Joined : ℕ → ℕ → List ℕ → List ℕ → Type 0
Joined a k before after = Holds after (λ x e. in_row before x e || (eqb x a && in_row before k e))

-- whatever has k in its set takes k's set
abbrev pub Passed : ℕ → List ℕ → List ℕ → Type 0
Passed k before after = Holds after (λ x e. in_row before x e || (in_row before x k && in_row before k e))

-- how many are in c's set
abbrev pub rank_of : List ℕ → ℕ → ℕ
rank_of sets c = ones (get_or sets c 0)
