-- A book as a tree. Each expression carries the place of its kind in the book.
use Rattle.std.specs.Prelude.{ℕ, List, [], ◌∷◌, ◌++◌}

pub data Leaf : Type 0 where
  source destination service : (low high : ℕ) → Leaf
  port : (p : ℕ) → Leaf
  protocol : (n : ℕ) → Leaf
  unread : (k : ℕ) → Leaf

mutual
  pub data Expr : Type 0 where
    always : (at : ℕ) → Expr
    negation : (at : ℕ) → Expr → Expr
    conjunction : (at : ℕ) → Exprs → Expr
    leaf : (at : ℕ) → Leaf → Expr

  pub data Exprs : Type 0 where
    none : Exprs
    more : Expr → Exprs → Exprs

abbrev pub exprs : List Expr → Exprs
exprs [] = none
exprs (e ∷ es) = more e (exprs es)

-- the place of an expression's kind
abbrev pub place_of : Expr → ℕ
place_of (always at) = at
place_of (negation at e) = at
place_of (conjunction at es) = at
place_of (leaf at l) = at

pub data Action : Type 0 where
  accept drop reject log empty return : Action
  call : (chain : ℕ) → Action

pub record Rule : Type 0 where
  pub number : ℕ
  pub place : ℕ
  pub action : Action
  pub match : Expr
  pub next : ℕ

-- policy: 0 accept, 1 drop
pub record Book : Type 0 where
  pub policy : ℕ
  pub total : ℕ
  pub chains : List (List Rule)

-- the rules of all chains, in the order of their numbers
abbrev pub all_rules : List (List Rule) → List Rule
all_rules [] = []
all_rules (c ∷ cs) = c ++ all_rules cs

abbrev pub rules_of : Book → List Rule
rules_of b = all_rules b.chains

-- of every element of a list
abbrev pub Every : {A : Type 0} → (A → Type 0) → List A → Type 0
Every P [] = Unit {0}
Every P (x ∷ xs) = P x × Every P xs
