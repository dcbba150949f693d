-- Chains counted rank by rank: those that a chain calls have a lower rank, so their needs are there.
use Prim.Native.Nat.{ℕ, zero, suc, ◌+◌, ◌≤◌, ◌<◌}
use native.Mathlib.Omega.{arith}
use native.Mathlib.Decide.{ℕ_discrete}
use mathlib.Core.Path.{◌≡◌, refl, sym, ap, ◌∙◌}
use mathlib.Core.Logic.{◌≢◌}
use mathlib.Core.List.{List}
use lib.ListN.{length, get_or, set, replicate}
use lib.Seq.{get_or-set_same, get_or-set_other}
use Rattle.model.specs.Limits.{chains_most}
use Rattle.book.specs.Contents.{Shape, first_of, rules_in}
use Rattle.book.specs.declared.Contents.{Contents}
use Rattle.calls.specs.Actions.{actions_at}
use Rattle.room.specs.declared.Need.{Need}
use Rattle.room.specs.Counting.{nothing, counted}
use Rattle.room.specs.Capped.{least, Small, kept, Kept, Known, Counting, Upto}
use Rattle.room.proofs.Actions.{none_small}

blanks_at : (n c : ℕ) → get_or (replicate n nothing) c nothing ≡ nothing
blanks_at zero c = refl
blanks_at (suc n) zero = refl
blanks_at (suc n) (suc c) = blanks_at n c

pub none_kept : Kept (replicate chains_most nothing)
none_kept = record { small = λ c. rw (blanks_at chains_most c) none_small }

-- a need is stored
module _ (needs : List Need) (size : length needs ≡ chains_most) (c : ℕ) (n : Need) (lt : c < chains_most) where
  abbrev pub stored : ℕ → Need
  stored = kept (set needs c n)

  pub stored_there : stored c ≡ n
  stored_there = get_or-set_same needs c n nothing (rw size lt)

  pub stored_other : (x : ℕ) → x ≢ c → stored x ≡ kept needs x
  stored_other x ne = get_or-set_other needs c x n nothing ne

  pub kept_stored : Kept needs → Small n → Kept (set needs c n)
  kept_stored all s = record {
    small = λ x. elim (ℕ_discrete x c) [ yes e ↦ rw (e, stored_there) s | no ne ↦ rw (stored_other x ne) (all.small x) ];
  }

module _ (k : Contents) (level : ℕ) (shape : Shape k) (rank : ℕ → ℕ) (f : ℕ → Need) (by : Counting k rank f) where
  -- the lower ranks have their needs, and of this rank the chains below c
  pub record Level (c : ℕ) (g : ℕ → Need) : Type 0 where
    pub lower : Upto k.chains rank f level g
    pub here : (x : ℕ) → x < k.chains → rank x ≡ level → x < c → g x ≡ least (f x)

  pub level_first : (g : ℕ → Need) → Upto k.chains rank f level g → Level 0 g
  level_first g h = record { lower = h; here = λ x lt e l. absurd (omega arith) }

  module _ (g : ℕ → Need) (c : ℕ) (lt : c < k.chains) (h : Level c g) where
    pub calls_known : rank c ≡ level → Known k f g c
    calls_known e i d q =
        let r = by.ranked.falls c i d lt q in
        h.lower d (shape.known i d (omega (arith, q.to, shape.inside c lt)) q.calls) (omega arith)

    pub level_counted : rank c ≡ level → (n : Need) → n ≡ least (counted f 1 (actions_at k (first_of k c) (rules_in k c)))
        → (after : ℕ → Need) → after c ≡ n → ((x : ℕ) → x ≢ c → after x ≡ g x) → Level (c + 1) after
    level_counted e n q after there other = record {
      lower = λ x l r. other x (λ s. omega (arith, ap rank s)) ∙ h.lower x l r;
      here = λ x l r b. elim (ℕ_discrete x c) [
        | yes s ↦ rw s (there ∙ q ∙ ap least (sym (by.recursive c lt)))
        | no ne ↦ other x ne ∙ h.here x l r (omega arith)
      ];
    }

    pub level_skipped : rank c ≢ level → Level (c + 1) g
    level_skipped n = record { lower = h.lower; here = λ x l r b. elim (ℕ_discrete x c) [ yes s ↦ absurd (n (ap rank (sym s) ∙ r)) | no ne ↦ h.here x l r (omega arith) ] }

  pub level_done : (g : ℕ → Need) (c : ℕ) → k.chains ≤ c → Level c g → Upto k.chains rank f (level + 1) g
  level_done g c ge h x l r = elim (ℕ_discrete (rank x) level) [ yes e ↦ h.here x l e (omega arith) | no ne ↦ h.lower x l (omega arith) ]
