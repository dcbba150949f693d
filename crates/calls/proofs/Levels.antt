-- Chains weighed rank by rank: those that a chain calls have a lower rank, so their weights are there.
use Prim.Native.Nat.{ℕ, ◌+◌, ◌≤◌, ◌<◌}
use native.Mathlib.Omega.{arith}
use native.Mathlib.Decide.{ℕ_discrete, dec_lt}
use mathlib.Core.Path.{◌≡◌, sym, ap, ◌∙◌}
use mathlib.Core.Logic.{◌≢◌}
use mathlib.Core.List.{List}
use lib.ListN.{length, get_or, set, replicate, length-set, length-replicate, get_or-replicate, get_or-eq_default}
use lib.Seq.{get_or-set_same, get_or-set_other}
use lib.Dec.{eqb, ltb}
use borrow.Author.Tests.{eqb-true, eqb-false, lt-ltb, le-ltb}
use Rattle.book.specs.Contents.{Shape, first_of, rules_in}
use Rattle.book.specs.declared.Contents.{Contents}
use Rattle.calls.specs.Actions.{weigh_at}
use Rattle.calls.specs.Weights.{capped, AllCapped, Weighed, Ranked, Weighing, Upto}
use Rattle.model.specs.Limits.{chains_most, weight_most}
use Rattle.calls.specs.Heavy.{heavy}
use Rattle.calls.proofs.Bools.{same}

pub none_weighed : AllCapped (replicate chains_most 0)
none_weighed = record { size = length-replicate {A = ℕ} chains_most 0; most = λ c. elim (dec_lt c chains_most) [ yes lt ↦ rw (get_or-replicate {A = ℕ} chains_most c 0 0 lt) (omega arith) | no ge ↦ rw (get_or-eq_default {A = ℕ} (replicate chains_most 0) 0 {n = c} (omega (arith, length-replicate {A = ℕ} chains_most 0))) (omega arith) ] }

module _ (weights : List ℕ) (all : AllCapped weights) (c v : ℕ) (lt : c < chains_most) where
  pub capped_set : v ≤ heavy → AllCapped (set weights c v)
  capped_set h = record {
    size = length-set weights c v ∙ all.size;
    most = λ x. elim (ℕ_discrete x c) [
      | yes e ↦ rw (e, get_or-set_same weights c v 0 (rw all.size lt)) h
      | no ne ↦ rw (get_or-set_other weights c x v 0 ne) (all.most x)
    ];
  }

module _ (k : Contents) (level : ℕ) (shape : Shape k) (rank w : ℕ → ℕ) (by : Weighing k rank w) where
  -- the lower ranks have their weights, and of this rank the chains below c
  pub record Level (c : ℕ) (weights : List ℕ) : Type 0 where
    pub lower : Upto k.chains rank w level weights
    pub here : (x : ℕ) → x < k.chains → rank x ≡ level → x < c → get_or weights x 0 ≡ capped (w x)

  pub level_first : (weights : List ℕ) → Upto k.chains rank w level weights → Level 0 weights
  level_first weights h = record { lower = h; here = λ x lt e l. absurd (omega arith) }

  module _ (weights : List ℕ) (c : ℕ) (lt : c < k.chains) (h : Level c weights) where
    pub calls_weighed : rank c ≡ level → Weighed k w weights c
    calls_weighed e i d at = let f = by.ranked.falls c i d lt at in h.lower d (shape.known i d (omega (arith, at.to, shape.inside c lt)) at.calls) (omega arith)

    pub level_weighed : AllCapped weights → rank c ≡ level → (v : ℕ) → v ≡ capped (weigh_at k w (first_of k c) (rules_in k c)) → Level (c + 1) (set weights c v)
    level_weighed all e v q =
        let size : c < length weights = rw all.size (omega (arith, shape.few)) in
        record {
          lower = λ x l r. get_or-set_other weights c x v 0 (λ s. omega (arith, ap rank s)) ∙ h.lower x l r;
          here = λ x l r b. elim (ℕ_discrete x c) [
            | yes s ↦ rw (s, get_or-set_same weights c v 0 size) (q ∙ ap capped (sym (by.recursive c lt)))
            | no ne ↦ get_or-set_other weights c x v 0 ne ∙ h.here x l r (omega arith)
          ];
        }

    pub level_skipped : rank c ≢ level → Level (c + 1) weights
    level_skipped n = record { lower = h.lower; here = λ x l r b. elim (ℕ_discrete x c) [ yes s ↦ absurd (n (ap rank (sym s) ∙ r)) | no ne ↦ h.here x l r (omega arith) ] }

  pub level_done : (weights : List ℕ) (c : ℕ) → k.chains ≤ c → Level c weights → Upto k.chains rank w (level + 1) weights
  level_done weights c ge h x l r = elim (ℕ_discrete (rank x) level) [ yes e ↦ h.here x l e (omega arith) | no ne ↦ h.lower x l (omega arith) ]

-- another writing of the ranks serves as well
pub same_ranks : {k : Contents} {rank : ℕ → ℕ} (r : ℕ → ℕ) → Shape k → ((c : ℕ) → c < k.chains → r c ≡ rank c) → Ranked k rank → Ranked k r
same_ranks r shape e by = record {
  falls = λ c i d lt at. omega (arith, e c lt, e d (shape.known i d (omega (arith, at.to, shape.inside c lt)) at.calls), by.falls c i d lt at);
  below = λ c lt. omega (arith, e c lt, by.below c lt);
}

-- the ranks of the chains below c are written
pub ranked_next : (all : List ℕ) (rank : ℕ → ℕ) (c v : ℕ) → c < length all → v ≡ rank c → ((x : ℕ) → x < c → get_or all x 0 ≡ rank x) → (x : ℕ) → x < c + 1 → get_or (set all c v) x 0 ≡ rank x
ranked_next all rank c v lt e h x l = elim (ℕ_discrete x c) [
  | yes s ↦ rw (s, get_or-set_same all c v 0 lt) e
  | no ne ↦ get_or-set_other all c x v 0 ne ∙ h x (omega arith)
]

pub too_heavy : (n v : ℕ) → v ≡ capped n → eqb v heavy ≡ ltb weight_most n
too_heavy n v e = same (eqb v heavy) (ltb weight_most n) (λ q. let f = eqb-true v heavy q in lt-ltb weight_most n (omega arith)) (λ q. let f = eqb-false v heavy q in le-ltb weight_most n (omega arith))
