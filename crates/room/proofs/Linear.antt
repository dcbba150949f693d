-- LINEAR: under k conditions more, a chain puts as many rules into the list, and k words more for each. At every depth of calls, loops or not.
use Prim.Native.Nat.{ℕ, zero, suc, ◌+◌, ◌*◌}
use native.Mathlib.Omega.{arith}
use mathlib.Core.Path.{◌≡◌, refl, ap, ◌∙◌}
use mathlib.Core.List.{List, [], ◌∷◌, ◌++◌}
use lib.ListN.{length, length-append}
use Rattle.model.specs.Calls.{chain_of}
use Rattle.model.specs.Tree.{Rule, Book, Action}
use Rattle.model.specs.Tree.Action.{accept, drop, reject, log, empty, return, call}
use Rattle.model.specs.Unfolding.{ListRule, Context, holds, fails, entered, past, unfold_rules, unfold_chain, list_of, words_of}
use Rattle.model.proofs.ReadBack.{length_none, length_one, length_both}
use Rattle.room.specs.declared.Need.{Need}
use Rattle.room.specs.Counting.{put, held_after, counted, actions_of, chain_need}

-- k conditions of the callers and held of the chain itself, the rule's own match among them
module _ (k : ℕ) where
  abbrev Under : Context → ℕ → Type 0
  Under ctx held = suc (length ctx) ≡ k + held

  past_under : (ctx : Context) (r : Rule) (a : Action) (held : ℕ) → Under ctx held → Under (past ctx r a) (held_after held a)
  past_under ctx r accept held h = h
  past_under ctx r drop held h = h
  past_under ctx r reject held h = h
  past_under ctx r log held h = h
  past_under ctx r empty held h = h
  past_under ctx r return held h = omega (arith, length-append ctx (fails r))
  past_under ctx r (call c) held h = h

module _ (run : Context → ℕ → List ListRule) (f : ℕ → Need)
    (same-rules : (ctx : Context) (c : ℕ) → length (run ctx c) ≡ (f c).rules) where
  entered_rules : (ctx : Context) (r : Rule) (a : Action) → length (entered run ctx r a) ≡ (put f a).rules
  entered_rules ctx r accept = refl
  entered_rules ctx r drop = refl
  entered_rules ctx r reject = refl
  entered_rules ctx r log = refl
  entered_rules ctx r empty = refl
  entered_rules ctx r return = refl
  entered_rules ctx r (call c) = same-rules (ctx ++ holds r) c

  rules_counted : (ctx : Context) (held : ℕ) (rs : List Rule) → length (unfold_rules run ctx rs) ≡ (counted f held (actions_of rs)).rules
  unfolding unfold_rules counted
  rules_counted ctx held [] = refl
  rules_counted ctx held (r ∷ rs) = length-append (entered run ctx r r.action) _ ∙ omega (arith, entered_rules ctx r r.action, rules_counted (past ctx r r.action) (held_after held r.action) rs)

module _ (run : Context → ℕ → List ListRule) (f : ℕ → Need)
    (same-words : (ctx : Context) (c : ℕ) → length (words_of (run ctx c)) ≡ (f c).words + length ctx * (f c).rules) where
  module _ (k : ℕ) (ctx : Context) (r : Rule) (held : ℕ) (h : Under k ctx held) where
    -- the rule's own match is one of the conditions
    under : length (ctx ++ holds r) ≡ k + held
    under = length-append ctx (holds r) ∙ omega arith

    a_rule : (n i : ℕ) → length (words_of (record { action = n; number = i; conditions = ctx ++ holds r } ∷ [])) ≡ 3 + held * 1 + k * 1
    a_rule n i = length_one (record { action = n; number = i; conditions = ctx ++ holds r }) ∙ omega (arith, under)

    none : length (words_of []) ≡ 0 + held * 0 + k * 0
    none = length_none ∙ omega arith

    entered_words : (a : Action) → length (words_of (entered run ctx r a)) ≡ (put f a).words + held * (put f a).rules + k * (put f a).rules
    entered_words accept = a_rule 0 r.number
    entered_words drop = a_rule 1 r.number
    entered_words reject = a_rule 1 r.number
    entered_words log = none
    entered_words empty = none
    entered_words return = none
    entered_words (call c) = same-words (ctx ++ holds r) c ∙ ap (λ n. (f c).words + n * (f c).rules) under ∙ omega arith

  words_counted : (k : ℕ) (ctx : Context) (held : ℕ) → Under k ctx held → (rs : List Rule) → length (words_of (unfold_rules run ctx rs)) ≡ (counted f held (actions_of rs)).words + k * (counted f held (actions_of rs)).rules
  unfolding unfold_rules counted
  words_counted k ctx held h [] = length_none ∙ omega arith
  words_counted k ctx held h (r ∷ rs) =
      length_both (entered run ctx r r.action) (unfold_rules run (past ctx r r.action) rs)
      ∙ omega (arith, entered_words k ctx r held h r.action, words_counted k (past ctx r r.action) (held_after held r.action) (past_under k ctx r r.action held h) rs)

-- A CHAIN'S PART OF THE LIST, under any conditions
pub chain_rules : (n : ℕ) (b : Book) (ctx : Context) (c : ℕ) → length (unfold_chain n b ctx c) ≡ (chain_need n b c).rules
unfolding unfold_chain chain_need
chain_rules zero b ctx c = refl
chain_rules (suc n) b ctx c = rules_counted (unfold_chain n b) (chain_need n b) (chain_rules n b) ctx 1 (chain_of b c)

pub chain_words_lem : (n : ℕ) (b : Book) (ctx : Context) (c : ℕ) → length (words_of (unfold_chain n b ctx c)) ≡ (chain_need n b c).words + length ctx * (chain_need n b c).rules
unfolding unfold_chain chain_need
chain_words_lem zero b ctx c = length_none ∙ omega arith
chain_words_lem (suc n) b ctx c = words_counted (unfold_chain n b) (chain_need n b) (chain_words_lem n b) (length ctx) ctx 1 (omega arith) (chain_of b c)

-- THE WHOLE LIST: the entry's part under no condition, and the policy
module _ (b : Book) where
  abbrev entry : Need
  entry = chain_need (length b.chains) b 0

  pub list_rules : length (list_of b) ≡ entry.rules + 1
  unfolding list_of
  list_rules = length-append (unfold_chain (length b.chains) b [] 0) _ ∙ ap (λ n. n + 1) (chain_rules (length b.chains) b [] 0)

  pub list_words : length (words_of (list_of b)) ≡ entry.words + 3
  unfolding list_of
  list_words =
      let policy : ListRule = record { action = b.policy; number = b.total; conditions = [] } in
      length_both (unfold_chain (length b.chains) b [] 0) (policy ∷ []) ∙ omega (arith, chain_words_lem (length b.chains) b [] 0, length_one policy)
