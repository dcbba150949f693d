-- Words told to be a rule: its three words, and then its conditions, as the model takes them. Assumes nothing.
use Rattle.std.proofs.Common.{◌≡◌, ℕ, ◌+◌, ◌/◌, ◌%◌, ◌≤◌, ◌<◌, List, [], ◌∷◌, length, get_or, take, drop, Bool, true, false, ◌&&◌, refl, sym, ◌∙◌, ap, ap₂, subst, arith, ◌-◌, ◌⊎◌, inl, inr, length-drop, Bor, Option as Option', Some, None}
use Rattle.std.proofs.lemmas.List.{take_all}
use Rattle.std.specs.List.{list_all}
use Rattle.std.specs.Slice.{IsGetRangeResult}
use mathlib.Core.Option.{Option, none, some}
use borrow.Author.Tests.{le-leb, lt-leb}
use lib.Dec.{leb, eqb}
use Rattle.model.specs.Tree.{Book}
use Rattle.model.specs.Slices.{◌and-then◌, match_at, conditions_in, rule_in}
use Rattle.review.specs.Known.{found}

-- something is found of two where it is of each, and of one
both_found : {A B C : Type 0} (o : Option A) (p : Option B) (f : A → B → C) → found (◌and-then◌ o (λ a. ◌and-then◌ p (λ b. some (f a b)))) ≡ found o && found p
both_found none p f = refl
both_found (some a) none f = refl
both_found (some a) (some b) f = refl

one_found : {A B : Type 0} (o : Option A) (f : A → B) → found o ≡ found (◌and-then◌ o (λ a. some (f a)))
one_found none f = refl
one_found (some a) f = refl

module _ (b : Book) where
  abbrev pub is_condition : ℕ → Bool
  is_condition w = found (match_at (w / 2) b)

  -- words are conditions where each is one
  pub all_found : (ws : List ℕ) → list_all is_condition ws ≡ found (conditions_in b ws)
  unfolding conditions_in
  all_found [] = refl
  all_found (w ∷ ws) = ap (λ t. is_condition w && t) (all_found ws) ∙ sym (both_found (match_at (w / 2) b) (conditions_in b ws) (λ e cs. record { negated = eqb (w % 2) 1; match = e } ∷ cs))

  -- a rule at the front of words, as far as its three words tell
  module _ (l : List ℕ) where
    pub rule_short : length l < 3 → false ≡ found (rule_in b l)
    unfolding rule_in
    rule_short h = rw (lt-leb 3 (length l) h)

    module _ (three : 3 ≤ length l) where
      has_three : leb 3 (length l) ≡ true
      has_three = le-leb 3 (length l) three

      pub rule_long : length l < 3 + get_or l 2 0 → false ≡ found (rule_in b l)
      unfolding rule_in
      rule_long h = rw (has_three, lt-leb (3 + get_or l 2 0) (length l) h)

      module _ (room : 3 + get_or l 2 0 ≤ length l) where
        has_room : leb (3 + get_or l 2 0) (length l) ≡ true
        has_room = le-leb (3 + get_or l 2 0) (length l) room

        pub rule_other : 1 < get_or l 0 0 → false ≡ found (rule_in b l)
        unfolding rule_in
        rule_other h = rw (has_three, has_room, lt-leb (get_or l 0 0) 1 h)

        -- all but its conditions is fine
        pub rule_is : get_or l 0 0 ≤ 1 → rule_in b l ≡ ◌and-then◌ (conditions_in b (take (get_or l 2 0) (drop 3 l)))
            (λ cs. some (record { action = get_or l 0 0; number = get_or l 1 0; conditions = cs }))
        unfolding rule_in
        rule_is h = rw (has_three, has_room, le-leb (get_or l 0 0) 1 h)

        pub rule_by_conditions : get_or l 0 0 ≤ 1 → (r : Bool) → r ≡ found (conditions_in b (take (get_or l 2 0) (drop 3 l))) → r ≡ found (rule_in b l)
        rule_by_conditions h r e = e ∙ one_found (conditions_in b (take (get_or l 2 0) (drop 3 l))) (λ cs. record { action = get_or l 0 0; number = get_or l 1 0; conditions = cs })
            ∙ sym (ap found (rule_is h))

  -- what stands in words behind a place, as `get` lends it
  module _ (words : List ℕ) (place : ℕ) (r : Option' (Bor (List ℕ))) (h : IsGetRangeResult words place (length words) r) where
    pub front_none : r ≡ None → false ≡ found (rule_in b (drop place words))
    front_none e = rule_short (drop place words) (omega (arith, length-drop place words, out ((subst (IsGetRangeResult words place (length words)) e h).0)))
      where
        out : (length words < place) ⊎ (length words < length words) → length words < place
        out (inl k) = k
        out (inr k) = absurd (omega arith)

    module _ (x : Bor (List ℕ)) (e : r ≡ Some x) where
      front_is : x.now ≡ drop place words
      front_is = (subst (IsGetRangeResult words place (length words)) e h).0.2 ∙ take_all (length words - place) (drop place words) (omega (arith, length-drop place words))

      pub front_short : length x.now < 3 → false ≡ found (rule_in b (drop place words))
      front_short k = subst (λ l. false ≡ found (rule_in b l)) front_is (rule_short x.now k)

      -- and in what is behind its three words
      module _ (three : 3 ≤ length x.now) (q : Option' (Bor (List ℕ))) (g : IsGetRangeResult (take (length x.now - 3) (drop 3 x.now)) 0 (get_or x.now 2 0) q) where
        abbrev behind : List ℕ
        behind = take (length x.now - 3) (drop 3 x.now)

        behind_is : behind ≡ drop 3 x.now
        behind_is = take_all (length x.now - 3) (drop 3 x.now) (omega (arith, length-drop 3 x.now))

        behind_long : length behind + 3 ≡ length x.now
        behind_long = omega (arith, ap length behind_is, length-drop 3 x.now)

        pub front_long : q ≡ None → false ≡ found (rule_in b (drop place words))
        front_long f = subst (λ l. false ≡ found (rule_in b l)) front_is (rule_long x.now three (omega (arith, behind_long, out ((subst (IsGetRangeResult behind 0 (get_or x.now 2 0)) f g).0))))
          where
            out : (get_or x.now 2 0 < 0) ⊎ (length behind < get_or x.now 2 0) → length behind < get_or x.now 2 0
            out (inl k) = absurd (omega arith)
            out (inr k) = k

        module _ (y : Bor (List ℕ)) (f : q ≡ Some y) where
          room : 3 + get_or x.now 2 0 ≤ length x.now
          room = let k = (subst (IsGetRangeResult behind 0 (get_or x.now 2 0)) f g).0 in omega (arith, k.1, behind_long)

          whole : get_or x.now 2 0 - 0 ≡ get_or x.now 2 0
          whole = omega arith

          conditions_are : y.now ≡ take (get_or x.now 2 0) (drop 3 x.now)
          conditions_are = (subst (IsGetRangeResult behind 0 (get_or x.now 2 0)) f g).0.2 ∙ ap₂ take whole behind_is

          pub front_other : 1 < get_or x.now 0 0 → false ≡ found (rule_in b (drop place words))
          front_other a = subst (λ l. false ≡ found (rule_in b l)) front_is (rule_other x.now three room a)

          pub front_conditions : get_or x.now 0 0 ≤ 1 → (t : Bool) → t ≡ found (conditions_in b y.now) → t ≡ found (rule_in b (drop place words))
          front_conditions a t k =
              subst (λ l. t ≡ found (rule_in b l)) front_is (rule_by_conditions x.now three room a t (k ∙ ap (λ l. found (conditions_in b l)) conditions_are))
