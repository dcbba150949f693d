-- An expression as it stands in the book's bytes: the numbers of document 01's table, one after the other. No level, count or limit is spoken of:
-- what a reader has found stands there, whatever it was read under.
use Rattle.std.specs.Prelude.{ℕ, zero, suc, ◌<◌, ◌≤◌, List, [], ◌∷◌, ◌≡◌, length}
use Rattle.model.specs.Number.{numeral, number_at}
use Rattle.model.specs.Tree.{Expr, Exprs, Leaf, place_of, Action, Rule, Book, Every}
use Rattle.model.specs.Tree.Expr.{always, negation, conjunction, leaf}
use Rattle.model.specs.Tree.Exprs.{none, more}
use Rattle.model.specs.Tree.Leaf.{source, destination, service, port, protocol, unread}
use Rattle.model.specs.Tree.Action.{accept, drop, reject, log, empty, return, call}

-- the number n stands at a place, and P is so of the place after it
pub record Then (s : List ℕ) (at n : ℕ) (P : ℕ → Type 0) : Type 0 where
  pub next : ℕ
  pub stands : number_at s at ≡ numeral n next
  pub rest : P next

-- one thing up to some place, and another from there
pub record Joined (P Q : ℕ → Type 0) : Type 0 where
  pub middle : ℕ
  pub first : P middle
  pub rest : Q middle

-- the table: the kind of an expression, and the fields of a leaf
abbrev pub leaf_kind : Leaf → ℕ
leaf_kind (source low high) = 3
leaf_kind (port p) = 4
leaf_kind (destination low high) = 5
leaf_kind (protocol n) = 6
leaf_kind (service low high) = 7
leaf_kind (unread k) = 8

abbrev pub kind_of : Expr → ℕ
kind_of (always at) = 0
kind_of (negation at e) = 1
kind_of (conjunction at es) = 2
kind_of (leaf at l) = leaf_kind l

abbrev pub fields : Leaf → List ℕ
fields (source low high) = low ∷ high ∷ []
fields (port p) = p ∷ []
fields (destination low high) = low ∷ high ∷ []
fields (protocol n) = n ∷ []
fields (service low high) = low ∷ high ∷ []
fields (unread k) = k ∷ []

abbrev pub size : Exprs → ℕ
size none = zero
size (more e es) = suc (size es)

-- these numbers stand from `at` to `next`
abbrev pub Row : List ℕ → ℕ → List ℕ → ℕ → Type 0
Row s at [] next = at ≡ next
Row s at (n ∷ ns) next = Then s at n (λ a. Row s a ns next)

-- what follows an expression's kind, from `at` to `next`; and operands, each at its own place with its kind
unfoldable mutual
  pub Body : List ℕ → ℕ → Expr → ℕ → Type 0
  Body s at (always p) next = at ≡ next
  Body s at (negation p e) next = (place_of e ≡ at) × Then s at (kind_of e) (λ a. Body s a e next)
  Body s at (conjunction p es) next = Then s at (size es) (λ a. Operands s a es next)
  Body s at (leaf p l) next = Row s at (fields l) next

  pub Operands : List ℕ → ℕ → Exprs → ℕ → Type 0
  Operands s at none next = at ≡ next
  Operands s at (more e es) next = Joined (λ m. (place_of e ≡ at) × Then s at (kind_of e) (λ a. Body s a e m)) (λ m. Operands s m es next)

-- the expression e stands from `at` to `next`
abbrev pub Stands : List ℕ → ℕ → Expr → ℕ → Type 0
Stands s at e next = (place_of e ≡ at) × Then s at (kind_of e) (λ a. Body s a e next)

-- some expression stands at a place
pub record Standing (s : List ℕ) (at : ℕ) : Type 0 where
  pub expr : Expr
  pub next : ℕ
  pub stands : Stands s at expr next

-- and some n operands
pub record StandingAll (s : List ℕ) (at n : ℕ) : Type 0 where
  pub operands : Exprs
  pub next : ℕ
  pub count : size operands ≡ n
  pub stands : Operands s at operands next

-- an expression stands at its own place
pub record Placed (s : List ℕ) (e : Expr) : Type 0 where
  pub next : ℕ
  pub stands : Stands s (place_of e) e next

-- the numbers ahead of a rule's expression: its action, and for a call the called chain
abbrev pub action_row : Action → List ℕ
action_row accept = 0 ∷ []
action_row drop = 1 ∷ []
action_row reject = 2 ∷ []
action_row log = 3 ∷ []
action_row empty = 4 ∷ []
action_row return = 5 ∷ []
action_row (call c) = 6 ∷ c ∷ []

-- a rule's own bytes of the book: from its place to its end, action through expression
pub record RuleWritten (s : List ℕ) (r : Rule) : Type 0 where
  pub some : r.place < r.next
  pub inside : r.next ≤ length s
  pub action : Row s r.place (action_row r.action) (place_of r.match)
  pub expression : Stands s (place_of r.match) r.match r.next

-- every rule's expression stands at its own place, up to the rule's end
abbrev pub RuleStands : List ℕ → Rule → Type 0
RuleStands s r = Stands s (place_of r.match) r.match r.next

abbrev pub BookStands : List ℕ → Book → Type 0
BookStands s b = Every (Every (RuleStands s)) b.chains
