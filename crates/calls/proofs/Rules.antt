-- The loops over a chain's rules: what is left to go is added to what was gathered.
use Prim.Native.Nat.{ℕ, zero, suc, ◌+◌, ◌-◌, ◌≤◌, ◌<◌}
use native.Mathlib.Omega.{arith}
use native.Mathlib.Decide.{ℕ_discrete}
use mathlib.Core.Path.{◌≡◌, refl, sym, ap, ◌∙◌}
use mathlib.Core.Logic.{⊎_elim}
use mathlib.Core.Bool.{true, false, ◌&&◌, ◌||◌, false≢true}
use mathlib.Core.List.{List, []}
use lib.ListN.{get_or, replicate, take, drop}
use lib.Dec.{eqb, ltb}
use borrow.Author.Tests.{eqb-true, eqb-false, eq-eqb, ne_eqb, lt-ltb, le-ltb}
use Rattle.std.proofs.lemmas.List.{get_or-take, get_or-drop}
use Rattle.model.specs.Calls.{called, any, weigh_called}
use Rattle.model.specs.Tree.Action.{call}
use Rattle.book.specs.Contents.{Shape, said, no_note, action_at, first_of, rules_in}
use Rattle.book.specs.declared.Contents.{Contents}
use Rattle.book.specs.declared.ChainNumber.{ChainNumber}
use Rattle.book.specs.declared.NotedRule.{NotedRule}
use Rattle.book.specs.declared.Action.{Action}
use Rattle.book.specs.declared.Action.TheVariants.{Accept, Drop, Reject, Log, Empty, Return, Call}
use Rattle.calls.specs.Sets.{has, in_row, Relation, Holds}
use Rattle.calls.specs.Actions.{calls_at, calls_in, weigh_at}
use Rattle.calls.specs.Weights.{capped}
use Rattle.calls.proofs.Bits.{has_nothing}
use Rattle.calls.proofs.Books.{called_is, is_called}
use Rattle.calls.proofs.Tables.{ltb_next, in_empty}
use Rattle.model.specs.Limits.{chains_most}
use Rattle.calls.specs.Heavy.{heavy}
use Rattle.calls.proofs.Bools.{same, or_false, and_none, or_cases, or_left, or_right, gather}

eqb_sym : (m n : ℕ) → eqb m n ≡ eqb n m
eqb_sym m n = same (eqb m n) (eqb n m) (λ e. eq-eqb n m (sym (eqb-true m n e))) (λ e. ne_eqb n m (λ q. eqb-false m n e (sym q)))

-- what is no call calls nothing
pub silent : (a : Action) → ((d : ChainNumber) → a ≡ Call d → ⊥) → called (said a) ≡ []
silent Accept other = refl
silent Drop other = refl
silent Reject other = refl
silent Log other = refl
silent Empty other = refl
silent Return other = refl
silent (Call d) other = absurd (other d refl)

-- rule j of chain c's part of the rules
pub part_action : (k : Contents) (c j : ℕ) (part : List NotedRule) → part ≡ take (rules_in k c) (drop (first_of k c) k.noted) → j < rules_in k c
    → said (get_or part j no_note).action ≡ action_at k (first_of k c + j)
part_action k c j part is lt = ap (λ (r : NotedRule). said r.action)
    (ap (λ l. get_or l j no_note) is ∙ get_or-take (rules_in k c) (drop (first_of k c) k.noted) j no_note lt ∙ get_or-drop (first_of k c) k.noted j no_note)

-- what it calls is a chain
pub part_calls : (k : Contents) (shape : Shape k) (c j : ℕ) (lt : c < k.chains) (part : List NotedRule)
    → part ≡ take (rules_in k c) (drop (first_of k c) k.noted) → j < rules_in k c → (d : ChainNumber) → (get_or part j no_note).action ≡ Call d → d.0 < k.chains
part_calls k shape c j lt part is l d q = shape.known (first_of k c + j) d.0 (omega (arith, shape.inside c lt)) (sym (part_action k c j part is l) ∙ ap said q)

module _ (k : Contents) where
  calls_step : (d i n end : ℕ) → n ≡ i + 1 → i < end → calls_at k d i (end - i) ≡ any (λ e. eqb e d) (called (action_at k i)) || calls_at k d n (end - n)
  unfolding calls_at
  calls_step d i n end next lt = let e : end - i ≡ suc (end - n) = omega arith in let f : n ≡ suc i = omega arith in rw (e, f)

  calls_none : (d i end : ℕ) → end ≤ i → calls_at k d i (end - i) ≡ false
  unfolding calls_at
  calls_none d i end ge = let e : end - i ≡ 0 = omega arith in rw e

  module _ (c end : ℕ) where
    -- with the calls of the rules from i on, a table comes to r
    abbrev pub With : ℕ → List ℕ → Relation → Type 0
    With i sets r = (x e : ℕ) → x < chains_most → e < chains_most → in_row sets x e || (eqb x c && calls_at k e i (end - i)) ≡ r x e

    module _ (i n : ℕ) (next : n ≡ i + 1) (lt : i < end) (sets : List ℕ) (r : Relation) (w : With i sets r) where
      pub a_call : (d : ℕ) → action_at k i ≡ call d → (after : List ℕ) → Holds after (λ x e. in_row sets x e || (eqb x c && eqb e d)) → With n after r
      a_call d q after j x e lx le =
          let here : any (λ z. eqb z e) (called (action_at k i)) ≡ eqb e d = ap (λ a. any (λ z. eqb z e) (called a)) q ∙ or_false (eqb d e) ∙ eqb_sym d e in
          ap (λ t. t || (eqb x c && calls_at k e n (end - n))) (j.bits x e lx le)
          ∙ gather (in_row sets x e) (eqb x c) (eqb e d) (calls_at k e n (end - n))
          ∙ ap (λ t. in_row sets x e || (eqb x c && t)) (ap (λ t. t || calls_at k e n (end - n)) (sym here) ∙ sym (calls_step e i n end next lt))
          ∙ w x e lx le

      pub no_call : called (action_at k i) ≡ [] → With n sets r
      no_call q x e lx le =
          ap (λ t. in_row sets x e || (eqb x c && t)) (ap (λ l. any (λ z. eqb z e) l || calls_at k e n (end - n)) (sym q) ∙ sym (calls_step e i n end next lt))
          ∙ w x e lx le

    pub all_called : (i : ℕ) → end ≤ i → (sets : List ℕ) (r : Relation) → With i sets r → (x e : ℕ) → x < chains_most → e < chains_most → in_row sets x e ≡ r x e
    all_called i ge sets r w x e lx le = sym (or_false (in_row sets x e)) ∙ ap (λ t. in_row sets x e || t) (sym (ap (λ t. eqb x c && t) (calls_none e i end ge) ∙ and_none (eqb x c))) ∙ w x e lx le

  -- ---- chain by chain
  -- the chains below c have their calls
  abbrev pub Below : ℕ → List ℕ → Type 0
  Below c sets = (x e : ℕ) → x < chains_most → e < chains_most → in_row sets x e ≡ ltb x c && calls_in k x e

  pub below_none : Below 0 (replicate chains_most 0)
  below_none x e lx le = in_empty x e lx ∙ rw (le-ltb x 0 (omega arith))

  pub chain_step : (c : ℕ) (sets after : List ℕ) → c < chains_most → Below c sets
      → Holds after (λ x e. in_row sets x e || (eqb x c && calls_in k c e)) → Below (c + 1) after
  chain_step c sets after lc h j x e lx le = j.bits x e lx le ∙ elim (ℕ_discrete x c) [
    | yes q ↦ rw (q, eq-eqb c c refl, h c e lc le, le-ltb c c (omega arith), lt-ltb c (c + 1) (omega arith))
    | no ne ↦ rw (ne_eqb x c ne, h x e lx le, ltb_next x c ne) (or_false (ltb x c && calls_in k x e))
  ]

  -- a called chain is one that a rule calls
  pub calls_within : (d n i chains : ℕ) → calls_at k d i n ≡ true → ((j : ℕ) → i ≤ j → j < i + n → action_at k j ≡ call d → d < chains) → d < chains
  unfolding calls_at
  calls_within d zero i chains h p = absurd (false≢true h)
  calls_within d (suc n) i chains h p =
      ⊎_elim
      (λ q. p i (omega arith) (omega arith) (called_is d (action_at k i) q))
      (λ q. calls_within d n (suc i) chains q (λ j a b. p j (omega arith) (omega arith)))
      (or_cases (any (λ e. eqb e d) (called (action_at k i))) _ h)

  -- and what a rule calls is called
  pub rule_calls : (d n i j : ℕ) → i ≤ j → j < i + n → action_at k j ≡ call d → calls_at k d i n ≡ true
  unfolding calls_at
  rule_calls d zero i j a b h = absurd (omega arith)
  rule_calls d (suc n) i j a b h = elim (ℕ_discrete i j) [
    | yes q ↦ or_left (any (λ e. eqb e d) (called (action_at k i))) _ (is_called d (action_at k i) (ap (action_at k) q ∙ h))
    | no ne ↦ or_right (any (λ e. eqb e d) (called (action_at k i))) _ (rule_calls d n (suc i) j (omega arith) (omega arith) h)
  ]

-- ---- the chains that are in their own set
module _ (sets : List ℕ) where
  abbrev pub Own : ℕ → ℕ → Type 0
  Own c out = (d : ℕ) → d < chains_most → has out d ≡ ltb d c && in_row sets d d

  pub own_none : Own 0 0
  own_none d l = rw (has_nothing d, le-ltb d 0 (omega arith))

  pub own_in : (c out after : ℕ) → c < chains_most → Own c out → in_row sets c c ≡ true → ((e : ℕ) → has after e ≡ has out e || eqb e c) → Own (c + 1) after
  own_in c out after lc h q j d l = j d ∙ elim (ℕ_discrete d c) [
    | yes s ↦ rw (s, eq-eqb c c refl, h c lc, le-ltb c c (omega arith), lt-ltb c (c + 1) (omega arith), q)
    | no ne ↦ rw (ne_eqb d c ne, h d l, ltb_next d c ne) (or_false (ltb d c && in_row sets d d))
  ]

  pub own_out : (c out : ℕ) → c < chains_most → Own c out → in_row sets c c ≡ false → Own (c + 1) out
  own_out c out lc h q d l = h d l ∙ elim (ℕ_discrete d c) [
    | yes s ↦ rw (s, q) (and_none (ltb c c) ∙ sym (and_none (ltb c (c + 1))))
    | no ne ↦ rw (ltb_next d c ne)
  ]

  pub own_all : (c out : ℕ) → chains_most ≤ c → Own c out → (d : ℕ) → d < chains_most → has out d ≡ in_row sets d d
  own_all c out ge h d l = h d l ∙ rw (lt-ltb d c (omega arith))

-- ---- the weight of what is left
module _ (k : Contents) (w : ℕ → ℕ) where
  weigh_step : (i n end : ℕ) → n ≡ i + 1 → i < end → weigh_at k w i (end - i) ≡ suc (weigh_called w (called (action_at k i)) + weigh_at k w n (end - n))
  unfolding weigh_at
  weigh_step i n end next lt = let e : end - i ≡ suc (end - n) = omega arith in let f : n ≡ suc i = omega arith in rw (e, f)

  pub weigh_none : (i end sum : ℕ) → end ≤ i → sum ≤ heavy → sum ≡ capped (sum + weigh_at k w i (end - i))
  unfolding weigh_at
  weigh_none i end sum ge le = let e : end - i ≡ 0 = omega arith in rw e (omega arith)

  -- one rule more, and what it calls
  pub weigh_next : (i n end sum more after : ℕ) → n ≡ i + 1 → i < end → more ≡ capped (weigh_called w (called (action_at k i))) → after ≡ capped (sum + 1 + more)
      → capped (after + weigh_at k w n (end - n)) ≡ capped (sum + weigh_at k w i (end - i))
  weigh_next i n end sum more after next lt e f = omega (arith, weigh_step i n end next lt)
