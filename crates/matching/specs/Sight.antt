-- What an asking knows of the leaves, and what it is to see a value and how far it holds. Definitions only.
use Rattle.std.specs.Prelude.{ℕ, ◌≤◌, ◌≡◌, List, [], ◌∷◌, eqb, Option, Some, None}
use Rattle.model.specs.Answer.{when}
use Rattle.model.specs.Limits.{greatest}
use Rattle.model.specs.Ternary.{Tri, no, unknown, yes, known, not₃, and₃}
use Rattle.model.specs.Tree.{Expr, Exprs}
use Rattle.model.specs.Tree.Leaf.{source, destination, service, port, protocol, unread}
use Rattle.model.specs.Matching.{Leaves, between, answer_bit, value, values}
use Rattle.model.specs.Standing.{Stands, Operands, Row, size}
use Rattle.matching.specs.declared.Asking.{Asking}
use Rattle.matching.specs.declared.Header.{Header}
use Rattle.matching.specs.declared.Held.{Held}
use Rattle.matching.specs.declared.Seen.{Seen}
use Rattle.matching.specs.declared.Truth.{Truth}
use Rattle.matching.specs.declared.Truth.TheVariants.{No, Unknown, Yes}

-- a truth of the code in the model's words
abbrev pub tri_of : Truth → Tri
tri_of No = no
tri_of Unknown = unknown
tri_of Yes = yes

-- what is known of a header's field, if the header is
abbrev pub of_header : Option Header → (Header → Tri) → Tri
of_header None f = unknown
of_header (Some h) f = f h

-- the leaves as the asking knows them, were y the source
abbrev pub sight : Asking → List ℕ → ℕ → Leaves
sight a answers y at (source low high) = known (between low high y)
sight a answers y at (destination low high) = of_header a.header (λ (h : Header). known (between low high h.destination))
sight a answers y at (service low high) = of_header a.header (λ (h : Header). known (between low high h.service))
sight a answers y at (port n) = known (eqb n a.port)
sight a answers y at (protocol n) = of_header a.header (λ (h : Header). known (eqb n h.protocol))
sight a answers y at (unread k) = when a.told (known (answer_bit answers k)) unknown

-- r's value is g at x, and at every source from there to where it holds
pub record Sees (g : ℕ → Tri) (x : ℕ) (r : Held) : Type 0 where
  pub on : x ≤ r.until
  pub same : (y : ℕ) → x ≤ y → y ≤ r.until → g y ≡ tri_of r.value

-- what is seen is the value of whatever expression stands at a place, and where it ends
abbrev pub SeesExpr : Asking → ℕ → List ℕ → List ℕ → ℕ → Seen → Type 0
SeesExpr a x s answers at r = (e : Expr) (next : ℕ) → Stands s at e next → Sees (λ y. value (sight a answers y) e) x r.held × (r.next ≡ next)

abbrev pub SeesAll : Asking → ℕ → List ℕ → List ℕ → ℕ → ℕ → Seen → Type 0
SeesAll a x s answers at count r =
    (es : Exprs) (next : ℕ) → size es ≡ count → Operands s at es next → Sees (λ y. values (sight a answers y) es) x r.held × (r.next ≡ next)

-- what is the same at every source holds up to the last
abbrev pub Ever : Truth → Held → Type 0
Ever v r = (r.value ≡ v) × (r.until ≡ greatest)

-- what holds of "not", and of both of two, as far as it holds of them
abbrev pub SeesNot : Held → Held → Type 0
SeesNot a r = (g : ℕ → Tri) (x : ℕ) → Sees g x a → Sees (λ y. not₃ (g y)) x r

abbrev pub SeesBoth : Held → Held → Held → Type 0
SeesBoth a b r = (g h : ℕ → Tri) (x : ℕ) → Sees g x a → Sees h x b → Sees (λ y. and₃ (g y) (h y)) x r

-- two numbers stand one behind the other
pub record Pair (s : List ℕ) (at : ℕ) : Type 0 where
  pub low : ℕ
  pub high : ℕ
  pub next : ℕ
  pub row : Row s at (low ∷ high ∷ []) next
