-- Conditions one after the other: those so far are seen. Assumes nothing.
use Rattle.std.proofs.Common.{false, ℕ, zero, suc, ◌+◌, ◌≤◌, ◌<◌, ◌/◌, ◌%◌, List, [], ◌∷◌}
use Rattle.std.proofs.Common.{◌++◌, ◌≡◌, refl, sym, ◌∙◌, ap, subst, arith, length, get_or, take, drop, eqb}
use Rattle.std.proofs.lemmas.List.{take_more, take-append-drop}
use Rattle.model.specs.Limits.{greatest}
use Rattle.model.specs.Tree.{Expr, place_of}
use Rattle.model.specs.Tree.Expr.{always}
use Rattle.model.specs.Ternary.{Tri, and₃, no}
use Rattle.model.specs.Matching.{value}
use Rattle.model.specs.Standing.{Stands, Standing}
use Rattle.model.specs.Unfolding.{Condition}
use Rattle.model.specs.Verdict.{condition_value, conditions_value}
use Rattle.model.proofs.ReadBack.{half, odd}
use Rattle.matching.specs.declared.Asking.{Asking}
use Rattle.matching.specs.declared.Held.{Held}
use Rattle.matching.specs.declared.Truth.TheVariants.{No, Yes}
use Rattle.matching.specs.Sight.{tri_of, sight, Ever, Sees, SeesBoth}
use Rattle.matching.specs.Conditions.{Noted, Written, WrittenAs, SeesCondition}
use Rattle.matching.proofs.Inside.{sees_ever, and_yes, yes_and, and_no, and_assoc}

conditions_both : (v : Expr → Tri) (cs ds : List Condition) → conditions_value v (cs ++ ds) ≡ and₃ (conditions_value v cs) (conditions_value v ds)
unfolding conditions_value
conditions_both v [] ds = sym (and_yes (conditions_value v ds))
conditions_both v (c ∷ cs) ds =
    ap (and₃ (condition_value v c)) (conditions_both v cs ds) ∙ and_assoc (condition_value v c) (conditions_value v cs) (conditions_value v ds)

conditions_one : (v : Expr → Tri) (c : Condition) → conditions_value v (c ∷ []) ≡ condition_value v c
unfolding conditions_value
conditions_one v c = yes_and (condition_value v c)

-- in place of a condition that is not there
abbrev none : Condition
none = record { negated = false; match = always 0 }

noted_at : (s words : List ℕ) (from : ℕ) (cs : List Condition) (i : ℕ) → i < length cs → Written s words from cs → Noted s words (from + i) (get_or cs i none)
noted_at s words from [] i h w = absurd (omega arith)
noted_at s words from (c ∷ cs) zero h w = let e : from ≡ from + 0 = omega arith in subst (λ n. Noted s words n c) e w.0
noted_at s words from (c ∷ cs) (suc i) h w = let e : suc from + i ≡ from + suc i = omega arith in
    subst (λ n. Noted s words n (get_or cs i none)) e (noted_at s words (suc from) cs i (omega arith) w.1)

module _ (s words : List ℕ) (cs : List Condition) (w : WrittenAs s words cs) (i : ℕ) (room : i < length words) where
  abbrev here : Noted s words i (get_or cs i none)
  here = let e : 0 + i ≡ i = omega arith in subst (λ n. Noted s words n (get_or cs i none)) e (noted_at s words 0 cs i (omega (arith, w.counted)) w.written)

  abbrev stands_here : (word : ℕ) → word ≡ get_or words i 0 → Stands s (word / 2) (get_or cs i none).match here.next
  stands_here word e = let c = get_or cs i none in
      subst (λ p. Stands s p c.match here.next) (sym (ap (λ v. v / 2) (e ∙ here.word) ∙ half (place_of c.match) c.negated)) here.stands

  pub standing_here : (word : ℕ) → word ≡ get_or words i 0 → Standing s (word / 2)
  standing_here word e = record { expr = (get_or cs i none).match; next = here.next; stands = stands_here word e }

  module _ (a : Asking) (x : ℕ) (answers : List ℕ) (h : Held) (so_far : Sees (λ y. conditions_value (value (sight a answers y)) (take i cs)) x h) where
    pub seen_more : (word : ℕ) → word ≡ get_or words i 0 → (g r : Held) → SeesCondition a x s answers word g → SeesBoth h g r
        → Sees (λ y. conditions_value (value (sight a answers y)) (take (i + 1) cs)) x r
    seen_more word e g r f both =
        let c = get_or cs i none in
        let m : eqb (word % 2) 1 ≡ c.negated = ap (λ v. eqb (v % 2) 1) (e ∙ here.word) ∙ odd (place_of c.match) c.negated in
        let one : Sees (λ y. condition_value (value (sight a answers y)) c) x g =
        subst (λ b. Sees (λ y. condition_value (value (sight a answers y)) (record { negated = b; match = c.match })) x g) m (f c.match here.next (stands_here word e)) in
        let k = both _ _ x so_far one in
        record {
          on = k.on;
          same = λ y p q. ap (conditions_value (value (sight a answers y))) (take_more cs i none (omega (arith, w.counted)))
              ∙ conditions_both (value (sight a answers y)) (take i cs) (c ∷ [])
              ∙ ap (and₃ (conditions_value (value (sight a answers y)) (take i cs))) (conditions_one (value (sight a answers y)) c)
              ∙ k.same y p q;
        }

-- at the start nothing is asked
pub seen_none : (cs : List Condition) (a : Asking) (x : ℕ) (answers : List ℕ) (h : Held) → Ever Yes h → x ≤ greatest
    → Sees (λ y. conditions_value (value (sight a answers y)) (take 0 cs)) x h
unfolding conditions_value
seen_none cs a x answers h e k = sees_ever _ x Yes h e k (λ y. refl)

module _ (cs : List Condition) (i : ℕ) (a : Asking) (x : ℕ) (answers : List ℕ) (h : Held)
    (so_far : Sees (λ y. conditions_value (value (sight a answers y)) (take i cs)) x h) where
  -- the rest does not matter once one is false
  pub seen_no : h.value ≡ No → Sees (λ y. conditions_value (value (sight a answers y)) cs) x h
  seen_no z = record {
    on = so_far.on;
    same = λ y p q. let v = value (sight a answers y) in
        let e : conditions_value v (take i cs) ≡ no = so_far.same y p q ∙ ap tri_of z in
        ap (conditions_value v) (sym (take-append-drop i cs)) ∙ conditions_both v (take i cs) (drop i cs)
        ∙ ap (λ t. and₃ t (conditions_value v (drop i cs))) e ∙ and_no (conditions_value v (drop i cs))
        ∙ sym (ap tri_of z);
  }
