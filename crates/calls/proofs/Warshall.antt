-- Warshall: with ever more chains allowed in between, the relation comes to be Reach.
use Prim.Native.Nat.{ℕ, zero, suc, ◌<◌, ◌≤◌}
use native.Mathlib.Omega.{arith}
use native.Mathlib.Decide.{ℕ_discrete}
use mathlib.Core.Path.{◌≡◌, ap₂, subst}
use mathlib.Core.Logic.{◌↔◌, ◌⊎◌, inl, inr, ⊎_elim}
use mathlib.Core.Bool.{true, ◌&&◌, ◌||◌}
use lib.ListN.{length}
use Rattle.model.specs.Calls.{chain_of, CallIn, Reach, direct, through}
use Rattle.model.specs.Tree.{Book}
use Rattle.calls.specs.Sets.{Relation}
use Rattle.calls.specs.Reached.{calls, reach}
use Rattle.calls.proofs.Books.{calls_call, call_calls}
use Rattle.model.specs.Limits.{chains_most}
use Rattle.calls.proofs.Bools.{or_cases, and_cases, or_left, or_right, and_both}

module _ (r : Relation) where
  abbrev R : ℕ → ℕ → ℕ → Type 0
  R k a b = reach r k a b ≡ true

  up : (k a b : ℕ) → R k a b → R (suc k) a b
  unfolding reach
  up k a b h = or_left _ _ h

  by : (k a b : ℕ) → R k a k → R k k b → R (suc k) a b
  unfolding reach
  by k a b h g = or_right (reach r k a b) _ (and_both _ _ h g)

  down : (k a b : ℕ) → R (suc k) a b → R k a b ⊎ (R k a k × R k k b)
  unfolding reach
  down k a b h = ⊎_elim (λ x. inl x) (λ x. inr (and_cases _ _ x)) (or_cases _ _ h)

  -- to and from k itself nothing is new at the step past k
  to_k : (k a : ℕ) → R (suc k) a k → R k a k
  to_k k a h = ⊎_elim (λ x. x) (λ x. x.0) (down k a k h)

  from_k : (k b : ℕ) → R (suc k) k b → R k k b
  from_k k b h = ⊎_elim (λ x. x) (λ x. x.1) (down k k b h)

  closed_step : (k a c b : ℕ) → ((a b : ℕ) → R k a c → R k c b → R k a b) → R k a c ⊎ (R k a k × R k k c) → R k c b ⊎ (R k c k × R k k b) → R (suc k) a b
  closed_step k a c b ih (inl h) (inl g) = up k a b (ih a b h g)
  closed_step k a c b ih (inl h) (inr g) = by k a b (ih a k h g.0) g.1
  closed_step k a c b ih (inr h) (inl g) = by k a b h.0 (ih k b h.1 g)
  closed_step k a c b ih (inr h) (inr g) = by k a b h.0 g.1

  -- with chains in between below k, going on from a chain below k is nothing new
  closed : (k a c b : ℕ) → c < k → R k a c → R k c b → R k a b
  closed zero a c b lt h g = absurd (omega arith)
  closed (suc k) a c b lt h g = at_k (ℕ_discrete c k) (λ lt' a b h g. closed k a c b lt' h g)
    where
      at_k : Dec (c ≡ k) → (c < k → (a b : ℕ) → R k a c → R k c b → R k a b) → R (suc k) a b
      at_k (yes e) ih = by k a b (to_k k a (subst (λ x. R (suc k) a x) e h)) (from_k k b (subst (λ x. R (suc k) x b) e g))
      at_k (no ne) ih = closed_step k a c b (ih (omega arith)) (down k a c h) (down k c b g)

  once : (k a b : ℕ) → r a b ≡ true → R k a b
  once zero a b h = unfold reach in h
  once (suc k) a b h = up k a b (once k a b h)

-- the first 64 of a relation are all that is asked of it
pub reach_same : (r s : Relation) → ((c d : ℕ) → c < chains_most → d < chains_most → r c d ≡ s c d) → (k c d : ℕ) → k ≤ chains_most → c < chains_most → d < chains_most → reach r k c d ≡ reach s k c d
unfolding reach
reach_same r s h zero c d le lt g = h c d lt g
reach_same r s h (suc k) c d le lt g = ap₂ ◌||◌ (reach_same r s h k c d (omega arith) lt g) (ap₂ ◌&&◌ (reach_same r s h k c k (omega arith) lt (omega arith)) (reach_same r s h k k d (omega arith) (omega arith) g))

module _ (b : Book) where
  on : {a c d : ℕ} → Reach b a c → Reach b c d → Reach b a d
  on (direct h) r = through h r
  on (through h q) r = through h (on q r)

  sound : (k c d : ℕ) → reach (calls b) k c d ≡ true → Reach b c d
  sound zero c d h = direct (calls_call b c d (unfold reach in h))
  sound (suc k) c d h = ⊎_elim (λ x. sound k c d x) (λ x. on (sound k c k x.0) (sound k k d x.1)) (down (calls b) k c d h)

  module _ (within : (c d : ℕ) → CallIn d (chain_of b c) → d < length b.chains) where
    complete : {c d : ℕ} → Reach b c d → reach (calls b) (length b.chains) c d ≡ true
    complete (direct {c = c} {d = d} h) = once (calls b) (length b.chains) c d (call_calls b c d h)
    complete (through {c = c} {e = e} {d = d} h r) = closed (calls b) (length b.chains) c e d (within c e h) (once (calls b) (length b.chains) c e (call_calls b c e h)) (complete r)

    -- WARSHALL'S RELATION IS REACH
    pub reach_exactly : (c d : ℕ) → (reach (calls b) (length b.chains) c d ≡ true) ↔ Reach b c d
    reach_exactly c d = (sound (length b.chains) c d, λ r. complete r)
