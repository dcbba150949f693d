-- The review is exact: it refuses at the first rule and the lowest suspect that some choices let the list accept, and certifies where there are none.
use Prim.Native.Nat.{ℕ, zero, suc, ◌≤◌, ◌<◌}
use native.Mathlib.Omega.{arith}
use mathlib.Core.Path.{◌≡◌, refl, ap, ap₂, sym, ◌∙◌, subst}
use mathlib.Core.Logic.{◌↔◌, ◌≢◌}
use mathlib.Core.Bool.{Bool, true, false, not, true≢false, false≢true, and-eq-true_iff}
use mathlib.Core.List.{List, [], ◌∷◌}
use lib.Dec.{leb, eqb}
use borrow.Author.Tests.{eqb-true, not-true}
use Rattle.model.specs.Answer.{when}
use Rattle.model.specs.Limits.{greatest}
use Rattle.model.specs.Ternary.{Tri, no, unknown, yes, is_yes, is_no, Agrees}
use Rattle.model.specs.Matching.{value, asked}
use Rattle.model.specs.Unfolding.{Condition, ListRule}
use Rattle.model.specs.Verdict.{conditions_value}
use Rattle.model.specs.Unread.{Choices, AcceptsAt, CanAccept, FirstAccept, number_at, ListPlaced}
use Rattle.model.specs.Spans.{Spans, has, minus, Canonical}
use Rattle.model.specs.Review.{Phase, running, certified, refused, split_conditions, may_pass, accepting, review}
use Rattle.model.proofs.Tests.{tests, cases}
use Rattle.model.proofs.SpanMembers.{has_minus}
use Rattle.model.proofs.SpanCanonical.{canonical_minus}
use Rattle.model.proofs.SpanUnique.{none_before, none_past, has_first}
use Rattle.model.proofs.SplitTells.{conditions_tell, conditions_true, conditions_false}
use Rattle.model.proofs.EvaluatorExact.{conditions_exactly, ahead}

-- what is known, and what it agrees with
may_true : (t : Tri) → is_no t ≡ false → Agrees t true
may_true no e = absurd (true≢false e)
may_true unknown e = tt
may_true yes e = tt

may_false : (t : Tri) → is_yes t ≡ false → Agrees t false
may_false no e = tt
may_false unknown e = tt
may_false yes e = absurd (true≢false e)

false_of : (t : Tri) → ¬ Agrees t true → Agrees t false
false_of no h = tt
false_of unknown h = tt
false_of yes h = absurd (h tt)

true_no : (t : Tri) → Agrees t true → is_no t ≡ false
true_no no a = absurd a
true_no unknown a = refl
true_no yes a = refl

false_yes : (t : Tri) → Agrees t false → is_yes t ≡ false
false_yes no a = refl
false_yes unknown a = refl
false_yes yes a = absurd a

data Compared (m n : ℕ) : Type 0 where
  less : m < n → Compared m n
  equal : m ≡ n → Compared m n
  more : n < m → Compared m n

compared : (m n : ℕ) → Compared m n
compared m n = cases (λ t. Compared m n) (leb m n)
    (λ e. cases (λ t. Compared m n) (leb n m) (λ f. equal (omega tests)) (λ f. less (omega tests)))
    (λ e. more (omega tests))

module _ (p : ℕ) where
  -- the value of conditions for source x, as far as it is known
  abbrev pub known_of : List Condition → ℕ → Tri
  known_of cs x = conditions_value (value (asked p x)) cs

  -- what the values say of rule i for source x
  abbrev pub CanAt : List ListRule → ℕ → ℕ → Type 0
  CanAt [] x i = ⊥
  CanAt (r ∷ rs) x zero = (r.action ≡ 0) × Agrees (known_of r.conditions x) true
  CanAt (r ∷ rs) x (suc i) = Agrees (known_of r.conditions x) false × CanAt rs x i

  can_accept : (rs : List ListRule) → ListPlaced rs → (x i : ℕ) → CanAt rs x i → CanAccept p rs i x
  can_accept [] l x i c = absurd c
  can_accept (r ∷ rs) l x zero c = let h = (conditions_exactly (asked p x) r.conditions l.0 true).0 c.1 in (ahead h.0 (λ j. h.0), (c.0, h.1))
  can_accept (r ∷ rs) l x (suc i) c =
      let h = (conditions_exactly (asked p x) r.conditions l.0 false).0 c.0 in let k = can_accept rs l.1 x i c.1 in
      (ahead h.0 k.0, (h.1, k.1))

  accept_can : (rs : List ListRule) → ListPlaced rs → (x i : ℕ) (α : Choices) → AcceptsAt (asked p x) rs i α → CanAt rs x i
  accept_can [] l x i α c = c
  accept_can (r ∷ rs) l x zero α c = (c.0, (conditions_exactly (asked p x) r.conditions l.0 true).1 (α 0, c.1))
  accept_can (r ∷ rs) l x (suc i) α c = ((conditions_exactly (asked p x) r.conditions l.0 false).1 (α 0, c.0), accept_can rs l.1 x i (λ j. α (suc j)) c.1)

  -- the members of what a rule leaves, and of what it may pass
  abbrev pub In : Spans → ℕ → Type 0
  In s x = has s x ≡ true

  pub canonical_low : (s : Spans) (x : ℕ) → Canonical greatest s → In s x → x ≤ greatest
  canonical_low s x c h = cases (λ t. x ≤ greatest) (leb x greatest) (λ e. omega tests) (λ e. absurd (true≢false (sym h ∙ none_past greatest 0 s x c (omega tests))))

  -- the suspects that a drop rule leaves
  abbrev surviving : List Condition → Spans → Spans
  surviving cs s = minus s (split_conditions p cs).true

  left_in : (cs : List Condition) (s : Spans) (x : ℕ) → Canonical greatest s → In (surviving cs s) x → In s x × Agrees (known_of cs x) false
  left_in cs s x c h =
      let k = (and-eq-true_iff (has s x) (not (has (split_conditions p cs).true x))).0 (sym (has_minus s (split_conditions p cs).true x) ∙ h) in
      (k.0, may_false (known_of cs x) (sym (conditions_true p cs x (canonical_low s x c k.0)) ∙ not-true _ k.1))

  in_left : (cs : List Condition) (s : Spans) (x : ℕ) → Canonical greatest s → In s x → Agrees (known_of cs x) false → In (surviving cs s) x
  in_left cs s x c h a = has_minus s (split_conditions p cs).true x ∙ rw (h, conditions_true p cs x (canonical_low s x c h), false_yes (known_of cs x) a)

  pass_in : (r : ListRule) (s : Spans) (x : ℕ) → Canonical greatest s → In (may_pass p r s) x → In s x × Agrees (known_of r.conditions x) true
  pass_in r s x c h =
      let k = (and-eq-true_iff (has s x) (not (has (split_conditions p r.conditions).false x))).0 (sym (has_minus s (split_conditions p r.conditions).false x) ∙ h) in
      (k.0, may_true (known_of r.conditions x) (sym (conditions_false p r.conditions x (canonical_low s x c k.0)) ∙ not-true _ k.1))

  in_pass : (r : ListRule) (s : Spans) (x : ℕ) → Canonical greatest s → In s x → Agrees (known_of r.conditions x) true → In (may_pass p r s) x
  in_pass r s x c h a = has_minus s (split_conditions p r.conditions).false x ∙ rw (h, conditions_false p r.conditions x (canonical_low s x c h), true_no (known_of r.conditions x) a)

  left_canonical : (r : ListRule) (s : Spans) → Canonical greatest s → Canonical greatest (surviving r.conditions s)
  left_canonical r s c = canonical_minus greatest s (split_conditions p r.conditions).true c (conditions_tell p r.conditions).trues.canonical

  -- no suspect is accepted by any rule
  abbrev pub Safe : Spans → List ListRule → Type 0
  Safe s rs = (x i : ℕ) → In s x → ¬ CanAt rs x i

  -- the first rule that may accept some suspect is rule i, of number n, and x is the lowest that it may accept
  abbrev pub Finds : Spans → List ListRule → ℕ → ℕ → Type 0
  Finds s rs n x = (i : ℕ) × (number_at rs i ≡ n) × ((j y : ℕ) → j < i → In s y → ¬ CanAt rs y j) × In s x × CanAt rs x i × ((y : ℕ) → y < x → In s y → ¬ CanAt rs y i)

  abbrev pub Says : Spans → List ListRule → Phase → Type 0
  Says s rs running = ⊥
  Says s rs certified = Safe s rs
  Says s rs (refused n x) = Finds s rs n x

  module _ (r : ListRule) (rs : List ListRule) (s : Spans) (c : Canonical greatest s) where
    abbrev left : Spans
    left = surviving r.conditions s

    -- a rule that does not accept
    module _ (z : r.action ≢ 0) where
      drop_safe : Safe left rs → Safe s (r ∷ rs)
      drop_safe h x zero m k = z k.0
      drop_safe h x (suc i) m k = h x i (in_left r.conditions s x c m k.0) k.1

      drop_finds : (n x : ℕ) → Finds left rs n x → Finds s (r ∷ rs) n x
      drop_finds n x f = let m = left_in r.conditions s x c f.3 in
          (suc f.0, f.1, before, m.0, (m.1, f.4), λ y lt q k. f.5 y lt (in_left r.conditions s y c q k.0) k.1)
        where
          before : (j y : ℕ) → j < suc f.0 → In s y → ¬ CanAt (r ∷ rs) y j
          before zero y lt q k = z k.0
          before (suc j) y lt q k = f.2 j y (omega arith) (in_left r.conditions s y c q k.0) k.1

      drop_says : (ph : Phase) → Says left rs ph → Says s (r ∷ rs) ph
      drop_says running h = h
      drop_says certified h = drop_safe h
      drop_says (refused n x) h = drop_finds n x h

    -- a rule that can accept no suspect
    module _ (none : (x : ℕ) → In s x → ¬ Agrees (known_of r.conditions x) true) where
      keep_safe : Safe s rs → Safe s (r ∷ rs)
      keep_safe h x zero m k = none x m k.1
      keep_safe h x (suc i) m k = h x i m k.1

      keep_finds : (n x : ℕ) → Finds s rs n x → Finds s (r ∷ rs) n x
      keep_finds n x f = (suc f.0, f.1, before, f.3, (false_of (known_of r.conditions x) (none x f.3), f.4), λ y lt q k. f.5 y lt q k.1)
        where
          before : (j y : ℕ) → j < suc f.0 → In s y → ¬ CanAt (r ∷ rs) y j
          before zero y lt q k = none y q k.1
          before (suc j) y lt q k = f.2 j y (omega arith) q k.1

      keep_says : (ph : Phase) → Says s rs ph → Says s (r ∷ rs) ph
      keep_says running h = h
      keep_says certified h = keep_safe h
      keep_says (refused n x) h = keep_finds n x h

    -- a rule that accepts
    accept_says : (z : r.action ≡ 0) (pass : Spans) → may_pass p r s ≡ pass → (kept : Phase) → Says s rs kept → Says s (r ∷ rs) (accepting r pass kept)
    accept_says z [] e kept h = keep_says (λ x m a. false≢true (ap (λ t. has t x) (sym e) ∙ in_pass r s x c m a)) kept h
    accept_says z (q ∷ qs) e kept h =
        let w : Canonical greatest (q ∷ qs) = subst (Canonical greatest) e (canonical_minus greatest s (split_conditions p r.conditions).false c (conditions_tell p r.conditions).falses.canonical) in
        let m = pass_in r s q.low c (rw e (has_first q qs q.low (omega arith) w.1)) in (
          0,
          refl,
          (λ j y lt. absurd (omega arith)),
          m.0,
          (z, m.1),
          λ y lt k a. true≢false (sym (in_pass r s y c k a.1) ∙ ap (λ t. has t y) e ∙ none_before greatest q.low (q ∷ qs) y (omega arith, w.1, w.2, w.3) lt),
        )

  pub review_says : (rs : List ListRule) (s : Spans) → Canonical greatest s → Says s rs (review p s rs)
  unfolding review
  review_says [] s c = λ x i m k. k
  review_says (r ∷ rs) s c = go (eqb r.action 0) refl (review_says rs s c) (review_says rs (surviving r.conditions s) (left_canonical r s c))
    where
      go : (b : Bool) → eqb r.action 0 ≡ b → Says s rs (review p s rs) → Says (surviving r.conditions s) rs (review p (surviving r.conditions s) rs)
          → Says s (r ∷ rs) (when b (accepting r (may_pass p r s) (review p (when b s (surviving r.conditions s)) rs)) (review p (when b s (surviving r.conditions s)) rs))
      go true e h k = accept_says r rs s c (eqb-true r.action 0 e) (may_pass p r s) refl (review p s rs) h
      go false e h k = drop_says r rs s c (λ z. false≢true (sym e ∙ ap (λ n. eqb n 0) z)) (review p (surviving r.conditions s) rs) k

  -- what the review says pins it down
  finds_once : (s : Spans) (rs : List ListRule) (n x n' x' : ℕ) → Finds s rs n x → Finds s rs n' x' → (n ≡ n') × (x ≡ x')
  finds_once s rs n x n' x' f g = (sym f.1 ∙ ap (number_at rs) same ∙ g.1, lowest)
    where
      same : f.0 ≡ g.0
      same = elim (compared f.0 g.0) [
        | less lt ↦ absurd (g.2 f.0 x lt f.3 f.4)
        | equal e ↦ e
        | more lt ↦ absurd (f.2 g.0 x' lt g.3 g.4)
      ]

      lowest : x ≡ x'
      lowest = elim (compared x x') [
        | less lt ↦ absurd (g.5 x lt f.3 (rw (← same) f.4))
        | equal e ↦ e
        | more lt ↦ absurd (f.5 x' lt g.3 (rw same g.4))
      ]

  safe_certified : (s : Spans) (rs : List ListRule) (ph : Phase) → Says s rs ph → Safe s rs → ph ≡ certified
  safe_certified s rs running h k = absurd h
  safe_certified s rs certified h k = refl
  safe_certified s rs (refused n x) h k = absurd (k x h.0 h.3 h.4)

  finds_refused : (s : Spans) (rs : List ListRule) (n x : ℕ) (ph : Phase) → Says s rs ph → Finds s rs n x → ph ≡ refused n x
  finds_refused s rs n x running h k = absurd h
  finds_refused s rs n x certified h k = absurd (h x k.0 k.3 k.4)
  finds_refused s rs n x (refused n' x') h k = let e = finds_once s rs n' x' n x h k in ap₂ refused e.0 e.1

  module _ (s : Spans) (c : Canonical greatest s) (rs : List ListRule) (l : ListPlaced rs) where
    -- THE REVIEW IS EXACT: certified where the list can accept no suspect at any rule, whatever is chosen
    pub certified_exactly : (review p s rs ≡ certified) ↔ ((x i : ℕ) → In s x → ¬ CanAccept p rs i x)
    certified_exactly = (
      (λ e x i m a. subst (Says s rs) e (review_says rs s c) x i m (accept_can rs l x i a.0 a.1)),
      (λ h. safe_certified s rs (review p s rs) (review_says rs s c) (λ x i m k. h x i m (can_accept rs l x i k))),
    )

    -- and refused at the first rule that can accept a suspect, with the lowest that it can accept
    pub refused_exactly : (n x : ℕ) → (review p s rs ≡ refused n x) ↔ ((i : ℕ) × (number_at rs i ≡ n) × FirstAccept p (In s) rs i x)
    refused_exactly n x = (to, from)
      where
        to : review p s rs ≡ refused n x → (i : ℕ) × (number_at rs i ≡ n) × FirstAccept p (In s) rs i x
        to e = let f = subst (Says s rs) e (review_says rs s c) in
            (f.0, f.1, ((λ j y lt m a. f.2 j y lt m (accept_can rs l y j a.0 a.1)), f.3, can_accept rs l x f.0 f.4, λ y lt m a. f.5 y lt m (accept_can rs l y f.0 a.0 a.1)))

        from : (i : ℕ) × (number_at rs i ≡ n) × FirstAccept p (In s) rs i x → review p s rs ≡ refused n x
        from h = finds_refused s rs n x (review p s rs) (review_says rs s c) (
          h.0,
          h.1,
          (λ j y lt m k. h.2.0 j y lt m (can_accept rs l y j k)),
          h.2.1,
          accept_can rs l x h.0 h.2.2.0 h.2.2.1,
          λ y lt m k. h.2.3 y lt m (can_accept rs l y h.0 k),
        )
