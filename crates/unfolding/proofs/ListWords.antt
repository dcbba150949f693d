-- What is written from a book's contents are the words of the book's list.
use Prim.Native.Nat.{ℕ, zero, suc, ◌+◌, ◌*◌, ◌≤◌, ◌<◌}
use native.Mathlib.Omega.{arith}
use native.Mathlib.Nat.{add-zero}
use native.Mathlib.Numerals.{add-one}
use mathlib.Core.Path.{◌≡◌, refl, ap, ap₂, sym, ◌∙◌}
use mathlib.Core.List.{List, [], ◌∷◌, ◌++◌, append-nil}
use lib.ListN.{length}
use Rattle.model.specs.Tree.{Rule, Book, Action, place_of}
use Rattle.model.specs.Tree.Action.{accept, drop, reject, log, empty, return, call}
use Rattle.model.specs.Calls.{chain_of}
use Rattle.model.specs.Unfolding.{ListRule, Context, holds, fails, entered, past, unfold_rules, unfold_chain, list_of, condition_word, condition_words, words_of}
use Rattle.model.proofs.ReadBack.{words_append, length_words}
use Rattle.book.specs.Contents.{action_at, first_of, Noted, NotedAll, Charted}
use Rattle.book.specs.declared.Contents.{Contents}
use Rattle.unfolding.specs.Emitted.{entry, rule_words, after, own_at, rules_words, chain_words}

conditions_append : (cs ds : Context) → condition_words (cs ++ ds) ≡ condition_words cs ++ condition_words ds
conditions_append [] ds = refl
conditions_append (c ∷ cs) ds = ap (λ l. condition_word c ∷ l) (conditions_append cs ds)

-- the word of a rule's own match
abbrev own_word : Rule → ℕ
own_word r = 2 * place_of r.match

with_own : (cs : Context) (r : Rule) → condition_words (cs ++ holds r) ≡ condition_words cs ++ (own_word r ∷ [])
with_own cs r = conditions_append cs (holds r) ∙ ap (λ k. condition_words cs ++ (k ∷ [])) (add-zero (own_word r))

entry_words : (a n : ℕ) (cs : Context) → entry a n (condition_words cs) ≡ words_of (record { action = a; number = n; conditions = cs } ∷ [])
unfolding words_of
entry_words a n cs = ap₂ (λ k l. a ∷ n ∷ k ∷ l) (length_words cs) (sym (append-nil (condition_words cs)))

decides : (a : ℕ) (cs : Context) (r : Rule) → entry a r.number (condition_words cs ++ (own_word r ∷ [])) ≡ words_of (record { action = a; number = r.number; conditions = cs ++ holds r } ∷ [])
decides a cs r = ap (entry a r.number) (sym (with_own cs r)) ∙ entry_words a r.number (cs ++ holds r)

-- a called chain is one of the first
abbrev Within : ℕ → Action → Type 0
Within chains accept = Unit {0}
Within chains drop = Unit {0}
Within chains reject = Unit {0}
Within chains log = Unit {0}
Within chains empty = Unit {0}
Within chains return = Unit {0}
Within chains (call c) = c < chains

within : (chains : ℕ) (a : Action) → ((c : ℕ) → a ≡ call c → c < chains) → Within chains a
within chains accept h = tt
within chains drop h = tt
within chains reject h = tt
within chains log h = tt
within chains empty h = tt
within chains return h = tt
within chains (call c) h = h c refl

-- after a rule
after_words : (cs : Context) (r : Rule) (x : Action) → after (condition_words cs) (own_word r) x ≡ condition_words (past cs r x)
after_words cs r accept = refl
after_words cs r drop = refl
after_words cs r reject = refl
after_words cs r log = refl
after_words cs r empty = refl
after_words cs r return = sym (conditions_append cs (fails r))
after_words cs r (call c) = refl

module _ (chains : ℕ) (run : List ℕ → ℕ → List ℕ) (list : Context → ℕ → List ListRule) (same : (cs : Context) (c : ℕ) → c < chains → run (condition_words cs) c ≡ words_of (list cs c)) where
  rule_words_lem : (cs : Context) (r : Rule) (x : Action) → Within chains x → rule_words run (condition_words cs) r.number (own_word r) x ≡ words_of (entered list cs r x)
  unfolding words_of
  rule_words_lem cs r accept h = decides 0 cs r
  rule_words_lem cs r drop h = decides 1 cs r
  rule_words_lem cs r reject h = decides 1 cs r
  rule_words_lem cs r log h = refl
  rule_words_lem cs r empty h = refl
  rule_words_lem cs r return h = refl
  rule_words_lem cs r (call c) h = ap (λ l. run l c) (sym (with_own cs r)) ∙ same (cs ++ holds r) c h

  module _ (k : Contents) (rules : ℕ) (known : (i d : ℕ) → i < rules → action_at k i ≡ call d → d < chains) where
    -- rule i of the contents is r
    noted_words : (cs : Context) (i : ℕ) (r : Rule) → i < rules → Noted k i r → rule_words run (condition_words cs) i (own_at k i) (action_at k i) ≡ words_of (entered list cs r r.action)
    noted_words cs i r lt q =
        ap (λ j. rule_words run (condition_words cs) j (own_at k i) (action_at k i)) (sym q.number)
        ∙ ap (λ j. rule_words run (condition_words cs) r.number (2 * j) (action_at k i)) (sym q.match)
        ∙ ap (λ x. rule_words run (condition_words cs) r.number (own_word r) x) (sym q.act)
        ∙ rule_words_lem cs r r.action (within chains r.action (λ d e. known i d lt (sym q.act ∙ e)))

    noted_after : (cs : Context) (i : ℕ) (r : Rule) → Noted k i r → after (condition_words cs) (own_at k i) (action_at k i) ≡ condition_words (past cs r r.action)
    noted_after cs i r q =
        ap (λ j. after (condition_words cs) (2 * j) (action_at k i)) (sym q.match)
        ∙ ap (λ x. after (condition_words cs) (own_word r) x) (sym q.act)
        ∙ after_words cs r r.action

    rules_words_lem : (cs : Context) (i : ℕ) (rs : List Rule) → i + length rs ≤ rules → NotedAll k i rs → rules_words k run (condition_words cs) i (length rs) ≡ words_of (unfold_rules list cs rs)
    unfolding rules_words unfold_rules words_of
    rules_words_lem cs i [] h q = refl
    rules_words_lem cs i (r ∷ rs) h q =
        let rest : rules_words k run (condition_words (past cs r r.action)) (i + 1) (length rs) ≡ words_of (unfold_rules list (past cs r r.action) rs) = rw add-one (rules_words_lem (past cs r r.action) (suc i) rs (omega arith) q.1) in
        ap₂ ◌++◌ (noted_words cs i r (omega arith) q.0) (ap (λ l. rules_words k run l (i + 1) (length rs)) (noted_after cs i r q.0) ∙ rest)
        ∙ sym (words_append (entered list cs r r.action) (unfold_rules list (past cs r r.action) rs))

module _ (b : Book) (k : Contents) (is : Charted b k) where
  chain_words_lem : (d : ℕ) (cs : Context) (c : ℕ) → c < k.chains → chain_words k d (condition_words cs) c ≡ words_of (unfold_chain d b cs c)
  unfolding chain_words unfold_chain words_of
  chain_words_lem zero cs c lt = refl
  chain_words_lem (suc d) cs c lt =
      ap (rules_words k (chain_words k d) (condition_words cs) (first_of k c)) (sym (is.sizes c lt))
      ∙ rules_words_lem k.chains (chain_words k d) (unfold_chain d b) (chain_words_lem d) k k.rules is.shape.known cs (first_of k c) (chain_of b c)
      (omega (arith, is.sizes c lt, is.shape.rising c lt, is.shape.inside c lt)) (is.noted c lt)

  -- THE LIST'S WORDS: the entry's chain under no condition, and the policy
  pub list_words : (policy : ℕ) → b.policy ≡ policy → chain_words k k.chains [] 0 ++ entry policy k.rules [] ≡ words_of (list_of b)
  unfolding list_of
  list_words policy e =
      ap₂ ◌++◌ (chain_words_lem k.chains [] 0 is.shape.some ∙ ap (λ d. words_of (unfold_chain d b [] 0)) (sym is.count))
      (ap₂ (λ n l. entry n l []) (sym e) (sym is.total) ∙ entry_words b.policy b.total [])
      ∙ sym (words_append (unfold_chain (length b.chains) b [] 0) (record { action = b.policy; number = b.total; conditions = [] } ∷ []))
