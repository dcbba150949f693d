-- A rule that the model takes out of words stands in them, and the expressions of its conditions stand in the book. Assumes nothing.
use Rattle.std.proofs.Common.{◌≡◌, ℕ, ◌+◌, ◌*◌, ◌/◌, ◌%◌, ◌≤◌, List, [], ◌∷◌, ◌++◌, length, get_or, take, drop, Bool, true, false, refl, sym, ◌∙◌, ap, ap₂, subst, arith, length-drop}
use mathlib.Core.Bool.{true≢false}
use mathlib.Core.Logic.{⊎_elim}
use mathlib.Core.Option.{Option, none, some}
use borrow.Author.Tests.{eqb-true, eqb-false}
use lib.Dec.{eqb}
use lib.ListN.{take-append-drop}
use lib.Seq.{length-take-le, drop-drop, get_or-drop}
use Rattle.model.specs.Answer.{fine, when}
use Rattle.model.specs.Calls.{readable}
use Rattle.model.specs.Tree.{Expr, place_of, Rule, Book, Every, rules_of}
use Rattle.model.specs.Standing.{Placed, RuleStands, BookStands}
use Rattle.model.specs.Unfolding.{Condition, ListRule, Conditions, condition_word, condition_words}
use Rattle.model.specs.Slices.{◌and-then◌, match_in, match_at, conditions_in, rule_at}
use Rattle.model.proofs.EveryRule.{every_all}
use Rattle.model.proofs.Placed.{readable_placed}
use Rattle.model.proofs.ReadBack.{length_words}
use Rattle.model.proofs.Success.{fine_is}
use Rattle.model.proofs.Tests.{cases}
use Rattle.matching.proofs.Words.{written_of}
use Rattle.suspects.proofs.Chains.{lt_or_le}
use Rattle.review.specs.Known.{found}
use Rattle.review.specs.Taken.{RuleAt}
use Rattle.review.proofs.ToldRules.{rule_short, rule_long, rule_other, rule_is}

-- nothing is not something
none_some : {A Z : Type 0} {a : A} → none ≡ some a → Z
none_some {a = a} e = absurd (true≢false (sym (ap found e)))

same_some : {A : Type 0} {a b : A} → some a ≡ some b → a ≡ b
same_some e = cc

then_some : {A B : Type 0} (o : Option A) (k : A → Option B) (c : B) → ◌and-then◌ o k ≡ some c → (a : A) × (o ≡ some a) × (k a ≡ some c)
then_some none k c e = none_some e
then_some (some a) k c e = (a, refl, e)

pub found_some : {A : Type 0} (o : Option A) → true ≡ found o → (a : A) × (o ≡ some a)
found_some none e = absurd (true≢false e)
found_some (some a) e = (a, refl)

pub found_none : {A : Type 0} (o : Option A) → false ≡ found o → o ≡ none
found_none none e = refl
found_none (some a) e = absurd (true≢false (sym e))

-- a word is twice a place, and one more where it is odd
word_back : (w : ℕ) → 2 * (w / 2) + when (eqb (w % 2) 1) 1 0 ≡ w
word_back w = cases (λ t. 2 * (w / 2) + when t 1 0 ≡ w) (eqb (w % 2) 1) (λ e. omega (arith, eqb-true (w % 2) 1 e)) (λ e. let ne = eqb-false (w % 2) 1 e in even ne)
  where
    even : (w % 2 ≡ 1 → ⊥) → 2 * (w / 2) + 0 ≡ w
    even ne = omega arith

matched : (s : List ℕ) (at : ℕ) (rs : List Rule) → Every (RuleStands s) rs → (e : Expr) → match_in at rs ≡ some e → (place_of e ≡ at) × Placed s e
unfolding match_in
matched s at [] h e q = none_some q
matched s at (r ∷ rs) h e q = go (matched s at rs h.1 e) (eqb (place_of r.match) at) refl q
  where
    go : (match_in at rs ≡ some e → (place_of e ≡ at) × Placed s e) → (t : Bool) → eqb (place_of r.match) at ≡ t → when t (some r.match) (match_in at rs) ≡ some e → (place_of e ≡ at) × Placed s e
    go rest true p q = subst (λ e. (place_of e ≡ at) × Placed s e) (same_some q) (eqb-true (place_of r.match) at p, record { next = r.next; stands = h.0 })
    go rest false p q = rest q

module _ (s : List ℕ) (b : Book) (read : readable s ≡ fine b) where
  stand : Every (RuleStands s) (rules_of b)
  stand = every_all (RuleStands s) b.chains (fine_is (BookStands s) (readable s) b (readable_placed s) read)

  conditions_are : (ws : List ℕ) (cs : List Condition) → conditions_in b ws ≡ some cs → (condition_words cs ≡ ws) × Conditions (Placed s) cs
  unfolding conditions_in
  conditions_are [] cs e = subst (λ cs. (condition_words cs ≡ []) × Conditions (Placed s) cs) (same_some e) (refl, tt)
  conditions_are (w ∷ ws) cs e =
      let m = then_some (match_at (w / 2) b) _ cs e in
      let l = then_some (conditions_in b ws) _ cs m.2 in
      let p = matched s (w / 2) (rules_of b) stand m.0 m.1 in
      let i = conditions_are ws l.0 l.1 in
      let c : Condition = record { negated = eqb (w % 2) 1; match = m.0 } in
      let k : condition_word c ≡ w = ap (λ at. 2 * at + when (eqb (w % 2) 1) 1 0) p.0 ∙ word_back w in
      subst (λ cs. (condition_words cs ≡ w ∷ ws) × Conditions (Placed s) cs) (same_some l.2) (ap₂ ◌∷◌ k i.0, (p.1, i.1))

  module _ (words : List ℕ) (place : ℕ) where
    abbrev front : List ℕ
    front = drop place words

    -- how many conditions the words at the place say
    abbrev count : ℕ
    count = get_or front 2 0

    module _ (r : ListRule) (e : rule_at b words place ≡ some r) where
      not_none : false ≡ found (rule_at b words place) → ⊥
      not_none f = true≢false (sym (f ∙ ap found e))

      three : 3 ≤ length front
      three = ⊎_elim (λ h. absurd (not_none (rule_short b front h))) (λ h. h) (lt_or_le (length front) 3)

      room : 3 + count ≤ length front
      room = ⊎_elim (λ h. absurd (not_none (rule_long b front three h))) (λ h. h) (lt_or_le (length front) (3 + count))

      action : get_or front 0 0 ≤ 1
      action = ⊎_elim (λ h. absurd (not_none (rule_other b front three room h))) (λ h. h) (lt_or_le 1 (get_or front 0 0))

      pub rule_stands : RuleAt s words place r
      rule_stands =
          let part = take count (drop 3 front) in
          let l = then_some (conditions_in b part) _ r (sym (rule_is b front three room action) ∙ e) in
          let i = conditions_are part l.0 l.1 in
          let long : length l.0 ≡ count = sym (length_words l.0) ∙ ap length i.0 ∙ length-take-le count (drop 3 front) (omega (arith, length-drop 3 front, room)) in
          let split : drop (place + 3) words ≡ condition_words l.0 ++ drop count (drop 3 front) =
          sym (drop-drop 3 place words) ∙ sym (take-append-drop count (drop 3 front)) ∙ ap (λ p. p ++ drop count (drop 3 front)) (sym i.0) in
          let counted : count ≡ get_or words (place + 2) 0 = get_or-drop place words 2 0 in
          let here : place + 0 ≡ place = omega arith in
          subst (RuleAt s words place) (same_some l.2) (record {
            action = rw here at (get_or-drop place words 0 0);
            number = get_or-drop place words 1 0;
            counted = long ∙ counted;
            room = omega (arith, room, length-drop place words, counted);
            written = written_of s words (place + 3) l.0 (drop count (drop 3 front)) split i.1;
          })
