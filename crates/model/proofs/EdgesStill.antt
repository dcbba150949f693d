-- Between two addresses with no edge between them nothing changes.
use Prim.Native.Nat.{ℕ, suc}
use mathlib.Core.Bool.{◌&&◌, ◌||◌, not}
use mathlib.Core.List.{List, [], ◌∷◌, ◌++◌}
use mathlib.Core.Path.{◌≡◌, refl, sym, ◌∙◌, ap, ap₂}
use lib.Dec.{leb}
use Rattle.model.specs.Tree.{Expr, Exprs, Leaf}
use Rattle.model.specs.Tree.Expr.{always, negation, conjunction, leaf}
use Rattle.model.specs.Tree.Exprs.{none, more}
use Rattle.model.specs.Tree.Leaf.{source, destination, service, port, protocol, unread}
use Rattle.model.specs.Ternary.{not₃, and₃, known}
use Rattle.model.specs.Matching.{value, values, asked, between}
use Rattle.model.specs.Spans.{Spans, has}
use Rattle.model.specs.Edges.{Still, leaf_edges, edges, edges_all, span_edges}
use Rattle.model.proofs.Tests.{leb_not}

pub still_parts : (x y : ℕ) (a b : List ℕ) → Still x y (a ++ b) → Still x y a × Still x y b
still_parts x y [] b s = (tt, s)
still_parts x y (z ∷ a) b s = let r = still_parts x y a b s.1 in ((s.0, r.0), r.1)

still_between : (x y low high : ℕ) → leb low x ≡ leb low y → leb (suc high) x ≡ leb (suc high) y → between low high x ≡ between low high y
still_between x y low high h k = ap₂ ◌&&◌ h (leb_not x high ∙ ap not k ∙ sym (leb_not y high))

still_leaf : (p x y at : ℕ) (l : Leaf) → Still x y (leaf_edges l) → asked p x at l ≡ asked p y at l
still_leaf p x y at (source low high) s = ap known (still_between x y low high s.0 s.1.0)
still_leaf p x y at (destination low high) s = refl
still_leaf p x y at (service low high) s = refl
still_leaf p x y at (port n) s = refl
still_leaf p x y at (protocol n) s = refl
still_leaf p x y at (unread k) s = refl

mutual
  unfolding edges edges_all value values

  pub still_value : (p x y : ℕ) (e : Expr) → Still x y (edges e) → value (asked p x) e ≡ value (asked p y) e
  still_value p x y (always at) s = refl
  still_value p x y (negation at e) s = ap not₃ (still_value p x y e s)
  still_value p x y (conjunction at es) s = still_values p x y es s
  still_value p x y (leaf at l) s = still_leaf p x y at l s

  pub still_values : (p x y : ℕ) (es : Exprs) → Still x y (edges_all es) → values (asked p x) es ≡ values (asked p y) es
  still_values p x y none s = refl
  still_values p x y (more e es) s = let r = still_parts x y (edges e) (edges_all es) s in ap₂ and₃ (still_value p x y e r.0) (still_values p x y es r.1)

pub still_has : (x y : ℕ) (a : Spans) → Still x y (span_edges a) → has a x ≡ has a y
still_has x y [] s = refl
still_has x y (r ∷ a) s = ap₂ ◌||◌ (still_between x y r.low r.high s.0 s.1.0) (still_has x y a s.1.1)
