-- A rule by number: each rule of a book that was read has its own bytes, and the entry hands back those of the rule asked for.
use Prim.Native.Nat.{ℕ, zero, suc, ◌-◌, ◌≤◌, ◌<◌}
use native.Mathlib.Omega.{arith}
use mathlib.Core.Bool.{Bool, true, false, ◌&&◌}
use mathlib.Core.List.{List, [], ◌∷◌}
use mathlib.Core.Logic.{◌≢◌}
use mathlib.Core.Path.{◌≡◌, refl, ap, sym, ◌∙◌, subst}
use lib.Dec.{eqb, ltb, eqb→eq}
use lib.ListN.{length, length-take, length-drop}
use lib.ListN as lists
use Rattle.model.specs.Limits.{levels_most}
use Rattle.model.specs.Answer.{fine, when}
use Rattle.model.specs.Reader.{refuse, choose, Stand}
use Rattle.model.specs.Number.{number, number_at, numeral}
use Rattle.model.specs.Tree.{Rule, Book, Action, rules_of, Every}
use Rattle.model.specs.Tree.Action.{accept, drop, reject, log, empty, return, call}
use Rattle.model.specs.Book.{expression, called_chain, action_in, rule, book_of}
use Rattle.model.specs.Calls.{readable}
use Rattle.model.specs.Standing.{Row, Stands, action_row, RuleWritten}
use Rattle.model.specs.Entries.{rule_of, own_bytes, rule_entry}
use Rattle.model.proofs.Branches.{actions}
use Rattle.model.proofs.Success.{Got, got_after, got_either, fine_is, fine_same, behind}
use Rattle.model.proofs.Standing.{number_stands, expression_stands}
use Rattle.model.proofs.NumberPast.{number_past}
use Rattle.model.proofs.StandingPast.{row_past, stands_past}
use Rattle.model.proofs.Placed.{checked_fine, book_all}
use Rattle.model.proofs.EveryRule.{every_all}

called_row : (n : ℕ) (s : List ℕ) (st : Stand) → Got (called_chain n s st) (λ c st'. Row s st.at (c ∷ []) st'.at)
called_row n s st = got_after (number s st) _ _ (number_stands s st) (λ c st₁ p.
    got_either (ltb zero c && ltb c n) _ _ s st₁ _ (λ e. record { next = st₁.at; stands = p; rest = refl }) (λ e. tt))

action_row_lem : (n : ℕ) (s : List ℕ) (st : Stand) → Got (action_in n s st) (λ a st'. Row s st.at (action_row a) st'.at)
action_row_lem n s st = got_after (number s st) _ _ (number_stands s st) (λ a st₁. elim a as (λ k. number_at s st.at ≡ numeral k st₁.at → Got (choose k (actions n) (refuse 4 st.at) s st₁) (λ a st'. Row s st.at (action_row a) st'.at)) [
  | zero ↦ λ p. record { next = st₁.at; stands = p; rest = refl }
  | suc zero ↦ λ p. record { next = st₁.at; stands = p; rest = refl }
  | suc (suc zero) ↦ λ p. record { next = st₁.at; stands = p; rest = refl }
  | suc (suc (suc zero)) ↦ λ p. record { next = st₁.at; stands = p; rest = refl }
  | suc (suc (suc (suc zero))) ↦ λ p. record { next = st₁.at; stands = p; rest = refl }
  | suc (suc (suc (suc (suc zero)))) ↦ λ p. record { next = st₁.at; stands = p; rest = refl }
  | suc (suc (suc (suc (suc (suc zero))))) ↦ λ p. got_after (called_chain n s st₁) _ _ (called_row n s st₁) (λ c st₂ q. record { next = st₁.at; stands = p; rest = q })
  | suc (suc (suc (suc (suc (suc (suc a)))))) ↦ λ p. tt
])

action_past : (s : List ℕ) (at : ℕ) (a : Action) (next : ℕ) → at ≤ length s → Row s at (action_row a) next → at ≤ next
action_past s at a next h r = (row_past s at (action_row a) next h r).0

row_starts : (s : List ℕ) (at : ℕ) (a : Action) (next : ℕ) → Row s at (action_row a) next → at < length s
row_starts s at accept next r = let p = number_past s at 0 r.next r.stands in omega arith
row_starts s at drop next r = let p = number_past s at 1 r.next r.stands in omega arith
row_starts s at reject next r = let p = number_past s at 2 r.next r.stands in omega arith
row_starts s at log next r = let p = number_past s at 3 r.next r.stands in omega arith
row_starts s at empty next r = let p = number_past s at 4 r.next r.stands in omega arith
row_starts s at return next r = let p = number_past s at 5 r.next r.stands in omega arith
row_starts s at (call c) next r = let p = number_past s at 6 r.next r.stands in omega arith

-- wherever a rule is read, its own bytes are its action's numbers and its expression
rule_written : (s : List ℕ) (chains i : ℕ) (st : Stand) → Got (rule chains i s st) (λ r st'. RuleWritten s r)
rule_written s chains i st =
    got_after (action_in chains s st) _ _ (action_row_lem chains s st) (λ a st₁ p.
    got_after (expression levels_most s st₁) _ _ (expression_stands levels_most s st₁) (λ e st₂ q.
    let h = stands_past s st₁.at e st₂.at q in
    let k = row_starts s st.at a st₁.at p in
    let l = action_past s st.at a st₁.at (omega arith) p in
    record { some = omega arith; inside = h.1; action = subst (λ at. Row s st.at (action_row a) at) (sym q.0) p; expression = subst (λ at. Stands s at e st₂.at) (sym q.0) q }))

pub readable_written : (s : List ℕ) (b : Book) → readable s ≡ fine b → Every (RuleWritten s) (rules_of b)
unfolding readable
readable_written s b e = every_all (RuleWritten s) b.chains
    (fine_is (λ b. Every (Every (RuleWritten s)) b.chains) (readable s) b (checked_fine (λ b. Every (Every (RuleWritten s)) b.chains) (book_of s) (book_all (RuleWritten s) s (rule_written s))) e)

-- the rule that is found is one of the rules, and has the number asked for
found : (P : Rule → Type 0) (n : ℕ) (rs : List Rule) (r : Rule) → rule_of n rs ≡ fine r → Every P rs → P r × (r.number ≡ n)
unfolding rule_of
found P n [] r e h = absurd (let z : ◌≡◌ {A = ℕ} 0 1 = cc in omega arith)
found P n (q ∷ rs) r e h = go (eqb q.number n) refl e (λ d. found P n rs r d h.1)
  where
    go : (b : Bool) → eqb q.number n ≡ b → when b (fine q) (rule_of n rs) ≡ fine r → (rule_of n rs ≡ fine r → P r × (r.number ≡ n)) → P r × (r.number ≡ n)
    go true t e later = let k : q ≡ r = fine_same e in (subst P k h.0, ap (λ r. r.number) (sym k) ∙ eqb→eq q.number n (rw t tt))
    go false t e later = later e

pub rule_own : (book : List ℕ) (n : ℕ) (part : List ℕ) → rule_entry book n ≡ fine part →
    (b : Book) × (r : Rule) × (readable book ≡ fine b) × (rule_of n (rules_of b) ≡ fine r) × (r.number ≡ n) × RuleWritten book r × (part ≡ own_bytes book r)
unfolding rule_entry
rule_own book n part e =
    let b = behind (readable book) _ part e in
    let r = behind (rule_of n (rules_of b.0)) _ part b.2 in
    let f = found (RuleWritten book) n (rules_of b.0) r.0 r.1 (readable_written book b.0 b.1) in
    (b.0, r.0, b.1, r.1, f.1, f.0, sym (fine_same r.2))

-- no rule is empty
pub rule_some : (book : List ℕ) (n : ℕ) (part : List ℕ) → rule_entry book n ≡ fine part → part ≢ []
rule_some book n part e z =
    let o = rule_own book n part e in
    let l : length (own_bytes book o.1) ≡ 0 = ap length (sym o.6 ∙ z) in
    let k = o.5 in
    let m = length-take (o.1.next - o.1.place) (lists.drop o.1.place book) in
    let d = length-drop o.1.place book in omega (arith, k.some, k.inside)
