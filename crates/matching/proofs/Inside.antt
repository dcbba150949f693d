-- What stands inside an expression, by its kind, and what is seen of the whole by what is seen inside. What stands at a place is one expression, so
-- that what is seen of it is seen of whatever stands there. Assumes nothing.
use Rattle.std.proofs.Common.{ℕ, ◌+◌, ◌%◌, ◌≤◌, ◌<◌, List, [], ◌∷◌, ◌≡◌, refl, sym, ◌∙◌, ap, subst, arith}
use Rattle.model.specs.Limits.{greatest}
use Rattle.model.specs.Number.{numeral, number_at}
use Rattle.model.specs.Tree.{Expr, Exprs, Leaf}
use Rattle.model.specs.Tree.Expr.{always, negation, conjunction, leaf}
use Rattle.model.specs.Tree.Exprs.{none, more}
use Rattle.model.specs.Tree.Leaf.{source, destination, service, port, protocol, unread}
use Rattle.model.specs.Ternary.{Tri, no, unknown, yes, and₃}
use Rattle.model.specs.Matching.{value, values}
use Rattle.model.specs.Standing.{Then, leaf_kind, kind_of, fields, size, Row, Body, Operands, Stands, Standing, StandingAll}
use Rattle.model.proofs.Standing.{leaf_kind_lem, stands_same}
use Rattle.model.proofs.StandingPast.{stands_past}
use Rattle.numbers.specs.Told.{Legible}
use Rattle.expressions.specs.declared.Kind.{Kind}
use Rattle.expressions.specs.Kinds.{kind_number}
use Rattle.matching.specs.declared.Asking.{Asking}
use Rattle.matching.specs.declared.Held.{Held}
use Rattle.matching.specs.declared.Seen.{Seen}
use Rattle.matching.specs.declared.Truth.{Truth}
use Rattle.matching.specs.Sight.{tri_of, sight, Ever, Sees, SeesNot, SeesBoth, SeesExpr, SeesAll, Pair}

pub and_yes : (t : Tri) → and₃ yes t ≡ t
and_yes no = refl
and_yes unknown = refl
and_yes yes = refl

pub yes_and : (t : Tri) → and₃ t yes ≡ t
yes_and no = refl
yes_and unknown = refl
yes_and yes = refl

pub and_no : (t : Tri) → and₃ no t ≡ no
and_no no = refl
and_no unknown = refl
and_no yes = refl

pub and_assoc : (t u v : Tri) → and₃ t (and₃ u v) ≡ and₃ (and₃ t u) v
and_assoc no u v = rw (and_no (and₃ u v), and_no u, and_no v)
and_assoc unknown no v = rw (and_no v)
and_assoc unknown unknown no = refl
and_assoc unknown unknown unknown = refl
and_assoc unknown unknown yes = refl
and_assoc unknown yes v = rw (and_yes v)
and_assoc yes u v = rw (and_yes (and₃ u v), and_yes u)

-- the number that was read is the one that stands there
module _ (s : List ℕ) (at n : ℕ) (P : ℕ → Type 0) (t : Then s at n P) where
  pub then_legible : Legible s at
  then_legible = record { value = n; next = t.next; stands = t.stands }

  module _ (v next : ℕ) (q : number_at s at ≡ numeral v next) where
    then_value : n ≡ v
    then_value = let e : numeral n t.next ≡ numeral v next = sym t.stands ∙ q in cc

    then_rest : P next
    then_rest = let e : numeral n t.next ≡ numeral v next = sym t.stands ∙ q in let k : t.next ≡ next = cc in subst P k t.rest

pub standing_legible : (s : List ℕ) (at : ℕ) → Standing s at → Legible s at
standing_legible s at p = then_legible s at _ _ p.stands.1

-- what is left of some expression of this kind
pub record Rest (s : List ℕ) (kind at : ℕ) : Type 0 where
  pub expr : Expr
  pub next : ℕ
  pub kind_is : kind_of expr ≡ kind
  pub body : Body s at expr next

pub rest_of : (s : List ℕ) (at kind next : ℕ) → number_at s at ≡ numeral kind next → Standing s at → Rest s kind next
rest_of s at kind next q p = record {
  expr = p.expr;
  next = p.next;
  kind_is = then_value s at _ _ p.stands.1 kind next q;
  body = then_rest s at _ (λ a. Body s a p.expr p.next) p.stands.1 kind next q;
}

-- the kind that was found
pub kind_here : (s : List ℕ) (at v next : ℕ) (k K : Kind) → number_at s at ≡ numeral v next → kind_number k ≡ v → k ≡ K → number_at s at ≡ numeral (kind_number K) next
kind_here s at v next k K q e z = q ∙ ap (λ n. numeral n next) (sym e ∙ ap kind_number z)

module _ (s : List ℕ) (at : ℕ) where
  -- kind 1
  pub inside_not : Rest s 1 at → Standing s at
  unfolding Body
  inside_not p = go p.expr p.kind_is p.body
    where
      go : (e : Expr) → kind_of e ≡ 1 → Body s at e p.next → Standing s at
      go (always m) k b = absurd (omega arith)
      go (negation m e) k b = record { expr = e; next = p.next; stands = b }
      go (conjunction m es) k b = absurd (omega arith)
      go (leaf m l) k b = absurd (omega (arith, leaf_kind_lem l))

  -- kind 2
  pub record Counted : Type 0 where
    pub operands : Exprs
    pub next : ℕ
    pub stands : Then s at (size operands) (λ m. Operands s m operands next)

  pub inside_all : Rest s 2 at → Counted
  unfolding Body
  inside_all p = go p.expr p.kind_is p.body
    where
      go : (e : Expr) → kind_of e ≡ 2 → Body s at e p.next → Counted
      go (always m) k b = absurd (omega arith)
      go (negation m e) k b = absurd (omega arith)
      go (conjunction m es) k b = record { operands = es; next = p.next; stands = b }
      go (leaf m l) k b = absurd (omega (arith, leaf_kind_lem l))

pub counted_legible : {s : List ℕ} {at : ℕ} → Counted s at → Legible s at
counted_legible {s} {at} p = then_legible s at _ _ p.stands

pub counted_standing : {s : List ℕ} {at : ℕ} → (count first : ℕ) → number_at s at ≡ numeral count first → Counted s at → StandingAll s first count
counted_standing {s} {at} count first q p = record {
  operands = p.operands;
  next = p.next;
  count = then_value s at _ _ p.stands count first q;
  stands = then_rest s at _ (λ m. Operands s m p.operands p.next) p.stands count first q;
}

-- the other kinds
pub record LeafAt (s : List ℕ) (kind at : ℕ) : Type 0 where
  pub leaf : Leaf
  pub next : ℕ
  pub kind_is : leaf_kind leaf ≡ kind
  pub row : Row s at (fields leaf) next

pub inside_leaf : (s : List ℕ) (kind at : ℕ) → 3 ≤ kind → Rest s kind at → LeafAt s kind at
unfolding Body
inside_leaf s kind at h p = go p.expr p.kind_is p.body
  where
    go : (e : Expr) → kind_of e ≡ kind → Body s at e p.next → LeafAt s kind at
    go (always m) k b = absurd (omega arith)
    go (negation m e) k b = absurd (omega arith)
    go (conjunction m es) k b = absurd (omega arith)
    go (leaf m l) k b = record { leaf = l; next = p.next; kind_is = k; row = b }

pub first_legible : {s : List ℕ} {kind at : ℕ} → LeafAt s kind at → Legible s at
first_legible {s} {kind} {at} p = go p.leaf p.row
  where
    go : (l : Leaf) → Row s at (fields l) p.next → Legible s at
    go (source low high) b = then_legible s at low _ b
    go (destination low high) b = then_legible s at low _ b
    go (service low high) b = then_legible s at low _ b
    go (port n) b = then_legible s at n _ b
    go (protocol n) b = then_legible s at n _ b
    go (unread n) b = then_legible s at n _ b

pub pair_of : {s : List ℕ} {kind at : ℕ} → kind % 2 ≡ 1 → LeafAt s kind at → Pair s at
pair_of {s} {kind} {at} odd p = go p.leaf p.kind_is p.row
  where
    go : (l : Leaf) → leaf_kind l ≡ kind → Row s at (fields l) p.next → Pair s at
    go (source low high) k b = record { low = low; high = high; next = p.next; row = b }
    go (destination low high) k b = record { low = low; high = high; next = p.next; row = b }
    go (service low high) k b = record { low = low; high = high; next = p.next; row = b }
    go (port n) k b = absurd (omega arith)
    go (protocol n) k b = absurd (omega arith)
    go (unread n) k b = absurd (omega arith)

-- what is seen of what stands there is seen of whatever does
module _ (a : Asking) (x : ℕ) (s answers : List ℕ) (at : ℕ) where
  sees_one : (r : Seen) (e : Expr) → Stands s at e r.next → Sees (λ y. value (sight a answers y) e) x r.held → SeesExpr a x s answers at r
  sees_one r e b h e' next' b' =
      let q = stands_same s at e e' r.next next' b b' in
      (subst (λ e. Sees (λ y. value (sight a answers y) e) x r.held) q.0 h, q.1)

  module _ (kind from : ℕ) (q : number_at s at ≡ numeral kind from) (r : Seen) where
    pub sees_always : kind ≡ 0 → from ≡ r.next → Sees (λ y. yes) x r.held → SeesExpr a x s answers at r
    unfolding Body value
    sees_always z e h = sees_one r (always at) (refl, record { next = from; stands = rw z at q; rest = e }) h

    pub sees_leaf : (l : Leaf) → leaf_kind l ≡ kind → Row s from (fields l) r.next → Sees (λ y. sight a answers y at l) x r.held → SeesExpr a x s answers at r
    unfolding Body value
    sees_leaf l z b h = sees_one r (leaf at l) (refl, record { next = from; stands = rw (sym z) at q; rest = b }) h

    pub sees_not : kind ≡ 1 → Standing s from → (g : Seen) → SeesExpr a x s answers from g → SeesNot g.held r.held → g.next ≡ r.next → SeesExpr a x s answers at r
    unfolding Body value
    sees_not z p g f n e =
        let u = f p.expr p.next p.stands in
        sees_one r (negation at p.expr) (refl, record { next = from; stands = rw z at q; rest = subst (λ m. Stands s from p.expr m) (sym u.1 ∙ e) p.stands }) (n _ x u.0)

    pub sees_all : kind ≡ 2 → (count first : ℕ) → number_at s from ≡ numeral count first → StandingAll s first count → SeesAll a x s answers first count r
        → SeesExpr a x s answers at r
    unfolding Body value
    sees_all z count first n p f =
        let u = f p.operands p.next p.count p.stands in
        let k = p.count in
        sees_one r (conjunction at p.operands) (
          refl,
          record {
            next = from;
            stands = rw z at q;
            rest = record { next = first; stands = rw (← k) at n; rest = subst (λ m. Operands s first p.operands m) (sym u.1) p.stands };
          },
        ) u.0

pub seen_past : (a : Asking) (x : ℕ) (s answers : List ℕ) (at : ℕ) (r : Seen) → SeesExpr a x s answers at r → Standing s at → at < r.next
seen_past a x s answers at r f p = let q = stands_past s at p.expr p.next p.stands in let e = (f p.expr p.next p.stands).1 in omega arith

pub row_of : (s : List ℕ) (at n next : ℕ) → number_at s at ≡ numeral n next → Row s at (n ∷ []) next
row_of s at n next q = record { next = next; stands = q; rest = refl }

-- what is known whatever the source is
pub sees_ever : (g : ℕ → Tri) (x : ℕ) (v : Truth) (r : Held) → Ever v r → x ≤ greatest → ((y : ℕ) → g y ≡ tri_of v) → Sees g x r
sees_ever g x v r e h f = record { on = omega (arith, e.1); same = λ y p q. f y ∙ ap tri_of (sym e.0) }

-- operands, one after the other: those so far come to `so_far`, which is held, and the rest stand where what is seen ends
pub record Left (a : Asking) (x : ℕ) (s answers : List ℕ) (es : Exprs) (next : ℕ) (r : Seen) (done : ℕ) : Type 0 where
  pub so_far : ℕ → Tri
  pub rest : Exprs
  pub sees : Sees so_far x r.held
  pub count : done + size rest ≡ size es
  pub stands : Operands s r.next rest next
  pub splits : (y : ℕ) → values (sight a answers y) es ≡ and₃ (so_far y) (values (sight a answers y) rest)

module _ (a : Asking) (x : ℕ) (s answers : List ℕ) (es : Exprs) (next : ℕ) where
  pub left_all : (r : Seen) → Sees (λ y. yes) x r.held → Operands s r.next es next → Left a x s answers es next r 0
  left_all r h b = record {
    so_far = λ y. yes;
    rest = es;
    sees = h;
    count = omega arith;
    stands = b;
    splits = λ y. sym (and_yes (values (sight a answers y) es));
  }

  module _ (f : Seen) (done : ℕ) (l : Left a x s answers es next f done) where
    pub left_standing : done < size es → Standing s f.next
    unfolding Operands
    left_standing some = go l.rest l.count l.stands
      where
        go : (o : Exprs) → done + size o ≡ size es → Operands s f.next o next → Standing s f.next
        go none k b = absurd (omega arith)
        go (more e o) k b = record { expr = e; next = b.middle; stands = b.first }

    pub left_more : done < size es → (g r : Seen) → SeesExpr a x s answers f.next g → SeesBoth f.held g.held r.held → g.next ≡ r.next
        → Left a x s answers es next r (done + 1)
    unfolding Operands values
    left_more some g r p both q = go l.rest l.count l.stands l.splits
      where
        go : (o : Exprs) → done + size o ≡ size es → Operands s f.next o next
            → ((y : ℕ) → values (sight a answers y) es ≡ and₃ (l.so_far y) (values (sight a answers y) o)) → Left a x s answers es next r (done + 1)
        go none k b w = absurd (omega arith)
        go (more e o) k b w =
            let u = p e b.middle b.first in
            record {
              so_far = λ y. and₃ (l.so_far y) (value (sight a answers y) e);
              rest = o;
              sees = both l.so_far (λ y. value (sight a answers y) e) x l.sees u.0;
              count = omega arith;
              stands = subst (λ m. Operands s m o next) (sym u.1 ∙ q) b.rest;
              splits = λ y. w y ∙ and_assoc (l.so_far y) (value (sight a answers y) e) (values (sight a answers y) o);
            }

    pub left_none : size es ≤ done → Sees (λ y. values (sight a answers y) es) x f.held × (f.next ≡ next)
    unfolding Operands values
    left_none z = go l.rest l.count l.stands l.splits
      where
        go : (o : Exprs) → done + size o ≡ size es → Operands s f.next o next
            → ((y : ℕ) → values (sight a answers y) es ≡ and₃ (l.so_far y) (values (sight a answers y) o))
            → Sees (λ y. values (sight a answers y) es) x f.held × (f.next ≡ next)
        go none k b w = (record { on = l.sees.on; same = λ y h k. w y ∙ yes_and (l.so_far y) ∙ l.sees.same y h k }, b)
        go (more e o) k b w = absurd (omega arith)
