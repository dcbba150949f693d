-- A table of sets under a store, a pass of Warshall's, and their rounds.
use Prim.Native.Nat.{ℕ, ◌+◌, ◌<◌, ◌^◌}
use native.Mathlib.Omega.{arith}
use native.Mathlib.Decide.{ℕ_discrete, dec_lt}
use native.Mathlib.Numerals.{add-one}
use mathlib.Core.Path.{◌≡◌, refl, sym, ap, ap₂, ◌∙◌}
use mathlib.Core.Logic.{◌≢◌}
use mathlib.Core.Bool.{Bool, true, false, ◌&&◌, ◌||◌}
use mathlib.Core.List.{List}
use lib.ListN.{get_or, set, replicate, length-set, length-replicate, get_or-replicate, get_or-eq_default}
use lib.Bits.{bit_or, or_lt}
use lib.Seq.{get_or-set_same, get_or-set_other}
use lib.Dec.{eqb, ltb}
use borrow.Author.Tests.{eq-eqb, ne_eqb, lt-ltb, le-ltb}
use Rattle.calls.specs.Sets.{has, in_row, Relation, Fit, Holds, Joined}
use Rattle.calls.specs.Reached.{reach}
use Rattle.calls.proofs.Bits.{has_nothing, has_or}
use Rattle.model.specs.Limits.{chains_most}
use Rattle.calls.proofs.Bools.{or_false, or_self}

pub ltb_next : (x a : ℕ) → x ≢ a → ltb x (a + 1) ≡ ltb x a
ltb_next x a ne = elim (dec_lt x a) [
  | yes lt ↦ lt-ltb x (a + 1) (omega arith) ∙ sym (lt-ltb x a lt)
  | no ge ↦ le-ltb x (a + 1) (omega arith) ∙ sym (le-ltb x a (omega arith))
]

module _ (sets : List ℕ) (fit : Fit sets) (a v : ℕ) (lt : a < chains_most) where
  row_same : (e : ℕ) → in_row (set sets a v) a e ≡ has v e
  unfolding in_row
  row_same e = ap (λ x. has x e) (get_or-set_same sets a v 0 (rw fit.size lt))

  row_other : (x e : ℕ) → x ≢ a → in_row (set sets a v) x e ≡ in_row sets x e
  unfolding in_row
  row_other x e ne = ap (λ x. has x e) (get_or-set_other sets a x v 0 ne)

  words_set : v < 2 ^ chains_most → (c : ℕ) → get_or (set sets a v) c 0 < 2 ^ chains_most
  words_set h c = elim (ℕ_discrete c a) [
    | yes e ↦ rw (e, get_or-set_same sets a v 0 (rw fit.size lt)) h
    | no ne ↦ rw (get_or-set_other sets a c v 0 ne) (fit.words c)
  ]

  fit_set : v < 2 ^ chains_most → Fit (set sets a v)
  fit_set h = record { size = length-set sets a v ∙ fit.size; words = words_set h }

  -- a store of a greater set at a
  pub grown : v < 2 ^ chains_most → (f : ℕ → Bool) → ((e : ℕ) → has v e ≡ in_row sets a e || f e) → Holds (set sets a v) (λ x e. in_row sets x e || (eqb x a && f e))
  grown h f more = record {
    fit = fit_set h;
    bits = λ x e lx le. elim (ℕ_discrete x a) [
      | yes q ↦ rw (q, eq-eqb a a refl) (row_same e ∙ more e)
      | no ne ↦ rw (ne_eqb x a ne) (row_other x e ne ∙ sym (or_false (in_row sets x e)))
    ];
  }

-- a union is one
pub joined : (sets : List ℕ) → Fit sets → (a k : ℕ) → a < chains_most → Joined a k sets (set sets a (bit_or (get_or sets a 0) (get_or sets k 0)))
unfolding in_row
joined sets fit a k lt =
    let x = get_or sets a 0 in
    let y = get_or sets k 0 in
    grown sets fit a (bit_or x y) lt (or_lt chains_most x y (fit.words a) (fit.words k)) (λ e. in_row sets k e) (has_or x y)

pub empty : Fit (replicate chains_most 0)
empty = record { size = length-replicate {A = ℕ} chains_most 0; words = λ c. elim (dec_lt c chains_most) [ yes lt ↦ rw (get_or-replicate {A = ℕ} chains_most c 0 0 lt) (omega arith) | no ge ↦ rw (get_or-eq_default {A = ℕ} (replicate chains_most 0) 0 {n = c} (omega (arith, length-replicate {A = ℕ} chains_most 0))) (omega arith) ] }

pub in_empty : (x e : ℕ) → x < chains_most → in_row (replicate chains_most 0) x e ≡ false
unfolding in_row
in_empty x e lt = ap (λ w. has w e) (get_or-replicate {A = ℕ} chains_most x 0 0 lt) ∙ has_nothing e

-- ---- one pass of Warshall's, row by row: the rows below a have taken k's set
module _ (o : Relation) (k : ℕ) where
  abbrev pub part : ℕ → Relation
  part a x e = o x e || (ltb x a && (o x k && o k e))

  pub part_none : (x e : ℕ) → part 0 x e ≡ o x e
  part_none x e = rw (le-ltb x 0 (omega arith)) (or_false (o x e))

  -- k's own row does not change
  part_own : (a e : ℕ) → part a k e ≡ o k e
  part_own a e = go (ltb k a)
    where
      go : (t : Bool) → o k e || (t && (o k k && o k e)) ≡ o k e
      go true = or_self (o k e) (o k k)
      go false = or_false (o k e)

  part_here : (a e : ℕ) → part a a e ≡ o a e
  part_here a e = rw (le-ltb a a (omega arith)) (or_false (o a e))

  part_other : (a x e : ℕ) → x ≢ a → part (a + 1) x e ≡ part a x e
  part_other a x e ne = ap (λ t. o x e || (t && (o x k && o k e))) (ltb_next x a ne)

  part_done : (a e : ℕ) → part (a + 1) a e ≡ o a e || (o a k && o k e)
  part_done a e = rw (lt-ltb a (a + 1) (omega arith))

  pub part_all : (a x e : ℕ) → x < a → part a x e ≡ o x e || (o x k && o k e)
  part_all a x e lt = rw (lt-ltb x a lt)

  module _ (sets : List ℕ) (a : ℕ) (la : a < chains_most) (lk : k < chains_most) (h : Holds sets (part a)) where
    -- row a has k: it takes k's set
    pub took : in_row sets a k ≡ true → (after : List ℕ) → Joined a k sets after → Holds after (part (a + 1))
    took q after j = record {
      fit = j.fit;
      bits = λ x e lx le. j.bits x e lx le ∙ elim (ℕ_discrete x a) [
        | yes s ↦ rw (s, eq-eqb a a refl) (ap₂ ◌||◌ (h.bits a e la le ∙ part_here a e) (h.bits k e lk le ∙ part_own a e) ∙ sym (part_done a e ∙ ap (λ t. o a e || (t && o k e)) (sym (part_here a k) ∙ sym (h.bits a k la lk) ∙ q)))
        | no ne ↦ rw (ne_eqb x a ne) (or_false (in_row sets x e) ∙ h.bits x e lx le ∙ sym (part_other a x e ne))
      ];
    }

    -- or it has not
    pub passed_by : in_row sets a k ≡ false → Holds sets (part (a + 1))
    passed_by q = record {
      fit = h.fit;
      bits = λ x e lx le. h.bits x e lx le ∙ elim (ℕ_discrete x a) [
        | yes s ↦ rw s (part_here a e ∙ sym (part_done a e ∙ ap (λ t. o a e || (t && o k e)) (sym (part_here a k) ∙ sym (h.bits a k la lk) ∙ q) ∙ or_false (o a e)))
        | no ne ↦ sym (part_other a x e ne)
      ];
    }

-- ---- the rounds
module _ (o : Relation) where
  pub first_round : (x e : ℕ) → o x e ≡ reach o 0 x e
  unfolding reach
  first_round x e = refl

  pub next_round : (k : ℕ) (sets after : List ℕ) → k < chains_most → Holds sets (reach o k) → Holds after (λ x e. in_row sets x e || (in_row sets x k && in_row sets k e)) → Holds after (reach o (k + 1))
  unfolding reach
  next_round k sets after lk h j = record {
    fit = j.fit;
    bits = λ x e lx le. rw (add-one k) (j.bits x e lx le ∙ ap₂ ◌||◌ (h.bits x e lx le) (ap₂ ◌&&◌ (h.bits x k lx lk) (h.bits k e lk le)));
  }
