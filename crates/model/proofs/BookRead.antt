-- What a book that is read is: its policy is one of the two, its calls name chains of its own, the places in it rise, its kinds 3 are few.
use Prim.Native.Nat.{ℕ, zero, suc, ◌+◌, ◌*◌, ◌≤◌, ◌<◌}
use mathlib.Core.Bool.{◌&&◌, and-eq-true_iff}
use mathlib.Core.List.{List, [], ◌∷◌, ◌++◌}
use mathlib.Core.Option.{Option, none, some}
use mathlib.Core.Path.{◌≡◌, refl, ◌∙◌}
use native.Mathlib.Omega.{arith}
use lib.Dec.{leb, ltb}
use lib.ListN.{length, length-append}
use borrow.Author.Tests.{ltb-true}
use Rattle.model.specs.Limits.{book_bytes, chains_most, rules_most, levels_most, sources_most, weight_most, operands_most, port_highest, protocol_highest, service_highest, unread_highest}
use Rattle.model.specs.Answer.{fine}
use Rattle.model.specs.Reader.{refuse, choose, Stand, Read, got, refused, Reader, each}
use Rattle.model.specs.Number.{number}
use Rattle.model.specs.Tree.{Expr, Exprs, exprs, place_of, Rule, Book, Action, Every, all_rules, rules_of}
use Rattle.model.specs.Tree.Expr.{always, negation, conjunction, leaf}
use Rattle.model.specs.Tree.Exprs.{none, more}
use Rattle.model.specs.Tree.Action.{accept, drop, reject, log, empty, return, call}
use Rattle.model.specs.Book.{within, one_more_source, expression, called_chain, action_in, rule, rule_count, chain, whole_book, book_of, end, start}
use Rattle.model.specs.Calls.{LoopFree, lowest_loop, weight, checked, readable}
use Rattle.model.specs.Unread.{Rises, RiseAll, Placed}
use Rattle.model.specs.Edges.{edges, edges_all, rules_edges, book_edges}
use Rattle.model.proofs.Tests.{tests, when_cases}
use Rattle.model.proofs.EveryRule.{every_append}
use Rattle.model.proofs.LoopsExact.{lowest_none}
use Rattle.model.proofs.Branches.{expression_kinds, actions}
use Rattle.model.proofs.Success.{Fine, fine_is, Got, got_after, got_as, got_when, got_either, Onward, both, Moved, number_got, within_got, end_got, each_got}

-- so many edges are read: two for each kind 3 counted, and the count keeps its limit
pub record Grown (st : Stand) (n : ℕ) (st' : Stand) : Type 0 where
  pub edges : n + 2 * st.sources ≡ 2 * st'.sources
  pub limit : st.sources ≤ sources_most → st'.sources ≤ sources_most

steady : {st st' : Stand} → st'.sources ≡ st.sources → Grown st 0 st'
steady e = record { edges = omega arith; limit = λ h. omega arith }

grow : {st st₁ st₂ : Stand} (n a b : ℕ) → n ≡ a + b → Grown st a st₁ → Grown st₁ b st₂ → Grown st n st₂
grow n a b e p q = record { edges = omega (arith, p.edges, q.edges); limit = λ h. q.limit (p.limit h) }

-- an expression that is read starts where its reading does, and the places of its leaves rise from there
pub record ExpressionRead (s : List ℕ) (st : Stand) (e : Expr) (st' : Stand) : Type 0 where
  pub onward : Onward s st st'
  pub place : place_of e ≡ st.at
  pub rises : Rises st.at e st'.at
  pub grown : Grown st (length (edges e)) st'

-- operands, of which there may be none, where the place is within the bytes
record OperandsRead (s : List ℕ) (st : Stand) (es : List Expr) (st' : Stand) : Type 0 where
  pub on : st.at ≤ st'.at
  pub inside : st'.at ≤ length s
  pub rules : st'.rules ≡ st.rules
  pub rises : RiseAll st.at (exprs es) st'.at
  pub grown : Grown st (length (edges_all (exprs es))) st'

mutual
  wider : (e : Expr) (low high low' : ℕ) → low ≤ low' → Rises low' e high → Rises low e high
  wider (always at) low high low' h r = tt
  wider (negation at e) low high low' h r = wider e low high low' h r
  wider (conjunction at es) low high low' h r = widers es low high low' h r
  wider (leaf at l) low high low' h r = (omega arith, r.1)

  widers : (es : Exprs) (low high low' : ℕ) → low ≤ low' → RiseAll low' es high → RiseAll low es high
  widers none low high low' h r = tt
  widers (more e es) low high low' h r = (r.0, omega arith, r.2, wider e low r.0 low' h r.3, r.4)

operand_more : (s : List ℕ) (st st₁ st₂ : Stand) (e : Expr) (es : List Expr) → ExpressionRead s st e st₁ → OperandsRead s st₁ es st₂ → OperandsRead s st (e ∷ es) st₂
unfolding edges
operand_more s st st₁ st₂ e es p q = record {
  on = omega (arith, p.onward.on, q.on);
  inside = q.inside;
  rules = q.rules ∙ p.onward.rules;
  rises = (st₁.at, omega (arith, p.onward.on), q.on, p.rises, q.rises);
  grown = grow _ _ _ (length-append (edges e) (edges_all (exprs es))) p.grown q.grown;
}

operands_got : (r : Reader Expr) (s : List ℕ) → ((st : Stand) → Got (r s st) (ExpressionRead s st)) →
    (n i : ℕ) (st : Stand) → st.at ≤ length s → Got (each n i (λ i. r) s st) (λ es st'. OperandsRead s st es st' × (length es ≡ n))
unfolding edges
operands_got r s f n i st h = each_got s (λ st. st.at ≤ length s) (λ i. ExpressionRead s) (λ i. OperandsRead s) (λ i st st' e k p. p.onward.inside)
    (λ i st k. record { on = omega arith; inside = k; rules = refl; rises = tt; grown = steady refl }) (λ i. operand_more s) (λ i. r) (λ i st k. f st) n i st h

source_got : (start : ℕ) (s : List ℕ) (st : Stand) → Got (one_more_source start s st) (λ a st'. (st'.at ≡ st.at) × (st'.rules ≡ st.rules) × (st'.sources ≡ suc st.sources) × (st'.sources ≤ sources_most))
source_got start s st = got_when (ltb st.sources sources_most) _ _ _ (λ e. (refl, refl, refl, omega tests)) (λ e. tt)

pub expression_got : (levels : ℕ) (s : List ℕ) (st : Stand) → Got (expression levels s st) (ExpressionRead s st)
unfolding expression edges
expression_got zero s st = tt
expression_got (suc levels) s st = got_after (number s st) _ _ (number_got s st) (λ kind st₁ p. elim kind as (λ k. Got (choose k (expression_kinds levels st.at) (refuse 4 st.at) s st₁) (ExpressionRead s st)) [
  | zero ↦ record { onward = p.onward; place = refl; rises = tt; grown = steady p.sources }
  | suc zero ↦
      got_after (expression levels s st₁) _ _ (expression_got levels s st₁) (λ e st₂ q. record {
        onward = both p.onward q.onward;
        place = refl;
        rises = wider e st.at st₂.at st₁.at (omega arith) q.rises;
        grown = grow _ _ _ (omega arith) (steady p.sources) q.grown;
      })
  | suc (suc zero) ↦
      got_after (within 2 operands_most s st₁) _ _ (within_got 2 operands_most s st₁) (λ n st₂ q.
      got_after (each n zero (λ i. expression levels) s st₂) _ _ (operands_got (expression levels) s (expression_got levels s) n zero st₂ q.2.onward.inside) (λ es st₃ r. record {
        onward = record { on = omega arith; inside = r.0.inside; rules = omega arith };
        place = refl;
        rises = widers (exprs es) st.at st₃.at st₂.at (omega arith) r.0.rises;
        grown = grow _ _ _ (omega arith) (steady (q.2.sources ∙ p.sources)) r.0.grown;
      }))
  | suc (suc (suc zero)) ↦
      got_after (one_more_source st.at s st₁) _ _ (source_got st.at s st₁) (λ _ st₂ q.
      got_after (number s st₂) _ _ (number_got s st₂) (λ low st₃ r.
      got_after (number s st₃) _ _ (number_got s st₃) (λ high st₄ t.
      record { onward = omega arith; place = refl; rises = omega arith; grown = record { edges = omega arith; limit = λ h. omega arith } })))
  | suc (suc (suc (suc zero))) ↦
      got_after (within 0 port_highest s st₁) _ _ (within_got 0 port_highest s st₁) (λ n st₂ q.
      record { onward = omega arith; place = refl; rises = omega arith; grown = steady (omega arith) })
  | suc (suc (suc (suc (suc zero)))) ↦
      got_after (number s st₁) _ _ (number_got s st₁) (λ low st₂ q.
      got_after (number s st₂) _ _ (number_got s st₂) (λ high st₃ r.
      record { onward = omega arith; place = refl; rises = omega arith; grown = steady (omega arith) }))
  | suc (suc (suc (suc (suc (suc zero))))) ↦
      got_after (within 0 protocol_highest s st₁) _ _ (within_got 0 protocol_highest s st₁) (λ n st₂ q.
      record { onward = omega arith; place = refl; rises = omega arith; grown = steady (omega arith) })
  | suc (suc (suc (suc (suc (suc (suc zero)))))) ↦
      got_after (within 0 service_highest s st₁) _ _ (within_got 0 service_highest s st₁) (λ low st₂ q.
      got_after (within 0 service_highest s st₂) _ _ (within_got 0 service_highest s st₂) (λ high st₃ r.
      record { onward = omega arith; place = refl; rises = omega arith; grown = steady (omega arith) }))
  | suc (suc (suc (suc (suc (suc (suc (suc zero))))))) ↦
      got_after (within 0 unread_highest s st₁) _ _ (within_got 0 unread_highest s st₁) (λ n st₂ q.
      record { onward = omega arith; place = refl; rises = omega arith; grown = steady (omega arith) })
  | suc (suc (suc (suc (suc (suc (suc (suc (suc kind)))))))) ↦ tt
])

-- a called chain is one of the n and not the entry
abbrev pub ActionFine : ℕ → Action → Type 0
ActionFine n accept = Unit {0}
ActionFine n drop = Unit {0}
ActionFine n reject = Unit {0}
ActionFine n log = Unit {0}
ActionFine n empty = Unit {0}
ActionFine n return = Unit {0}
ActionFine n (call c) = (0 < c) × (c < n)

called_got : (n : ℕ) (s : List ℕ) (st : Stand) → Got (called_chain n s st) (λ c st'. ((0 < c) × (c < n)) × Moved s st st')
called_got n s st = got_after (number s st) _ _ (number_got s st) (λ c st₁ p.
    got_either (ltb zero c && ltb c n) _ _ s st₁ _ (λ e. let k = (and-eq-true_iff (ltb zero c) (ltb c n)).0 e in ((ltb-true zero c k.0, ltb-true c n k.1), p)) (λ e. tt))

pub action_got : (n : ℕ) (s : List ℕ) (st : Stand) → Got (action_in n s st) (λ a st'. ActionFine n a × Moved s st st')
action_got n s st = got_after (number s st) _ _ (number_got s st) (λ a st₁ p. elim a as (λ k. Got (choose k (actions n) (refuse 4 st.at) s st₁) (λ x st'. ActionFine n x × Moved s st st')) [
  | zero ↦ (tt, p)
  | suc zero ↦ (tt, p)
  | suc (suc zero) ↦ (tt, p)
  | suc (suc (suc zero)) ↦ (tt, p)
  | suc (suc (suc (suc zero))) ↦ (tt, p)
  | suc (suc (suc (suc (suc zero)))) ↦ (tt, p)
  | suc (suc (suc (suc (suc (suc zero))))) ↦ got_after (called_chain n s st₁) _ _ (called_got n s st₁) (λ c st₂ q. (q.0, record { onward = both p.onward q.1.onward; sources = q.1.sources ∙ p.sources }))
  | suc (suc (suc (suc (suc (suc (suc a)))))) ↦ tt
])

pub record RuleFine (n : ℕ) (r : Rule) : Type 0 where
  pub action : ActionFine n r.action
  pub placed : Placed r.match

-- the places of the rules' expressions rise, from low on and below high
abbrev pub Places : ℕ → List Rule → ℕ → Type 0
Places low [] high = low ≤ high
Places low (r ∷ rs) high = (low ≤ place_of r.match) × Places (suc (place_of r.match)) rs high

places_later : (low low' : ℕ) (rs : List Rule) (high : ℕ) → low ≤ low' → Places low' rs high → Places low rs high
places_later low low' [] high h p = omega arith
places_later low low' (r ∷ rs) high h p = (omega arith, p.1)

places_append : (low : ℕ) (a : List Rule) (middle : ℕ) (b : List Rule) (high : ℕ) → Places low a middle → Places middle b high → Places low (a ++ b) high
places_append low [] middle b high p q = places_later low middle b high p q
places_append low (r ∷ a) middle b high p q = (p.0, places_append (suc (place_of r.match)) a middle b high p.1 q)

record RulesRead (n : ℕ) (st : Stand) (rs : List Rule) (st' : Stand) : Type 0 where
  pub places : Places st.at rs st'.at
  pub rules : Every (RuleFine n) rs
  pub grown : Grown st (length (rules_edges rs)) st'

edges_append : (a b : List Rule) → length (rules_edges (a ++ b)) ≡ length (rules_edges a) + length (rules_edges b)
edges_append [] b = omega arith
edges_append (r ∷ a) b =
    omega (arith, length-append (edges r.match) (rules_edges (a ++ b)), length-append (edges r.match) (rules_edges a), edges_append a b)

rules_append : (n : ℕ) (st st₁ st₂ : Stand) (a b : List Rule) → RulesRead n st a st₁ → RulesRead n st₁ b st₂ → RulesRead n st (a ++ b) st₂
rules_append n st st₁ st₂ a b p q = record {
  places = places_append st.at a st₁.at b st₂.at p.places q.places;
  rules = every_append (RuleFine n) a b p.rules q.rules;
  grown = grow _ _ _ (edges_append a b) p.grown q.grown;
}

rules_none : (n : ℕ) (st : Stand) → RulesRead n st [] st
rules_none n st = record { places = omega arith; rules = tt; grown = steady refl }

rule_got : (n i : ℕ) (s : List ℕ) (st : Stand) → Got (rule n i s st) (λ r st'. RulesRead n st (r ∷ []) st')
rule_got n i s st =
    got_after (action_in n s st) _ _ (action_got n s st) (λ a st₁ p.
    got_after (expression levels_most s st₁) _ _ (expression_got levels_most s st₁) (λ e st₂ q. record {
      places = (omega arith, omega arith);
      rules = (record { action = p.0; placed = (st₁.at, st₂.at, q.rises) }, tt);
      grown = grow _ _ _ (omega (arith, length-append (edges e) [])) (steady p.1.sources) q.grown;
    }))

count_got : (s : List ℕ) (st : Stand) → Got (rule_count s st) (λ n st'. (st.at < st'.at) × (st'.sources ≡ st.sources))
count_got s st = got_after (number s st) _ _ (number_got s st) (λ n st₁ p.
    got_when (leb (st₁.rules + n) rules_most) _ _ _ (λ e. (p.onward.on, p.sources)) (λ e. tt))

-- rules, or chains, wherever they are read
abbrev Anywhere : Stand → Type 0
Anywhere st = Unit {0}

chain_got : (n : ℕ) (s : List ℕ) (st : Stand) → Got (chain n s st) (RulesRead n st)
chain_got n s st =
    got_after (rule_count s st) _ _ (count_got s st) (λ k st₁ p.
    got_as (each k st.rules (rule n) s st₁) _
    (each_got s Anywhere (λ i st r. RulesRead n st (r ∷ [])) (λ i. RulesRead n) (λ i st st' r h q. tt) (λ i st h. rules_none n st)
    (λ i st st₁ st₂ r rs. rules_append n st st₁ st₂ (r ∷ []) rs) (rule n) (λ i st h. rule_got n i s st) k st.rules st₁ tt)
    (λ rs st₂ q. record {
      places = places_later st.at st₁.at rs st₂.at (omega arith) q.0.places;
      rules = q.0.rules;
      grown = grow _ _ _ (omega arith) (steady p.1) q.0.grown;
    }))

-- WHAT A BOOK THAT IS READ IS
pub record Sound (b : Book) : Type 0 where
  pub policy : b.policy ≤ 1
  pub some : 1 ≤ length b.chains
  pub few : length b.chains ≤ chains_most
  pub rules : Every (RuleFine (length b.chains)) (rules_of b)
  pub places : (low high : ℕ) × Places low (rules_of b) high
  pub edges : length (book_edges b) ≤ 2 * sources_most

whole_got : (s : List ℕ) → Got (whole_book s start) (λ b st'. Sound b)
whole_got s =
    got_after (within 1 1 s start) _ _ (within_got 1 1 s start) (λ edition st₁ p.
    got_after (within 1 chains_most s st₁) _ _ (within_got 1 chains_most s st₁) (λ n st₂ q.
    got_after (within 0 1 s st₂) _ _ (within_got 0 1 s st₂) (λ policy st₃ r.
    got_after (each n zero (λ i. chain n) s st₃) _ _
    (each_got s Anywhere (λ i. RulesRead n) (λ i st cs. RulesRead n st (all_rules cs)) (λ i st st' c h q. tt) (λ i st h. rules_none n st)
    (λ i st st₁ st₂ c cs. rules_append n st st₁ st₂ c (all_rules cs)) (λ i. chain n) (λ i st h. chain_got n s st) n zero st₃ tt) (λ chains st₄ t.
    got_after (end s st₄) _ _ (end_got s st₄) (λ e st₅ u. record {
      policy = r.1;
      some = omega arith;
      few = omega arith;
      rules = rw t.1 t.0.rules;
      places = (st₃.at, st₄.at, t.0.places);
      edges = omega (arith, t.0.grown.edges, t.0.grown.limit (omega (arith, p.2.sources, q.2.sources, r.2.sources)));
    })))))

book_got : (s : List ℕ) → Got (book_of s) (λ b st'. Sound b)
unfolding book_of
book_got s = got_when (leb (length s) book_bytes) _ _ _ (λ e. whole_got s) (λ e. tt)

-- WHAT A READABLE BOOK IS: sound, and with no loop
pub record Readable (b : Book) : Type 0 where
  pub sound : Sound b
  pub free : LoopFree b

checked_fine : (r : Read Book) → Got r (λ b st'. Sound b) → Fine (checked r) Readable
checked_fine (refused n p) h = tt
checked_fine (got b st) h = loop (lowest_loop (length b.chains) zero b) refl
  where
    loop : (o : Option ℕ) → lowest_loop (length b.chains) zero b ≡ o → Fine (checked (got b st)) Readable
    loop (some c) e = rw e tt
    loop none e = rw e (when_cases (λ r. Fine r Readable) (leb (weight (length b.chains) b zero) weight_most) _ _ (λ t. record { sound = h; free = (lowest_none b).0 e }) (λ t. tt))

pub readable_is : (s : List ℕ) (b : Book) → readable s ≡ fine b → Readable b
unfolding readable
readable_is s b e = fine_is Readable (readable s) b (checked_fine (book_of s) (book_got s)) e
