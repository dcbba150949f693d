-- The list's words as they are written from the contents, the conditions of a place being words already.
use Rattle.std.specs.Prelude.{ℕ, zero, suc, ◌+◌, ◌*◌, List, [], ◌∷◌, ◌++◌, length}
use Rattle.model.specs.Tree.{Action}
use Rattle.model.specs.Tree.Action.{accept, drop, reject, log, empty, return, call}
use Rattle.book.specs.Contents.{action_at, expression_at, first_of, rules_in}
use Rattle.book.specs.declared.Contents.{Contents}

-- a list rule
abbrev pub entry : ℕ → ℕ → List ℕ → List ℕ
entry a n cs = a ∷ n ∷ length cs ∷ cs

-- what rule n puts into the list under the conditions cs, `own` being the word of its match and `run` what a called chain puts
abbrev pub rule_words : (List ℕ → ℕ → List ℕ) → List ℕ → ℕ → ℕ → Action → List ℕ
rule_words run cs n own accept = entry 0 n (cs ++ (own ∷ []))
rule_words run cs n own drop = entry 1 n (cs ++ (own ∷ []))
rule_words run cs n own reject = entry 1 n (cs ++ (own ∷ []))
rule_words run cs n own log = []
rule_words run cs n own empty = []
rule_words run cs n own return = []
rule_words run cs n own (call c) = run (cs ++ (own ∷ [])) c

-- the conditions for what stands after it in its chain
abbrev pub after : List ℕ → ℕ → Action → List ℕ
after cs own accept = cs
after cs own drop = cs
after cs own reject = cs
after cs own log = cs
after cs own empty = cs
after cs own return = cs ++ ((own + 1) ∷ [])
after cs own (call c) = cs

-- the match of rule i, not negated
abbrev pub own_at : Contents → ℕ → ℕ
own_at k i = 2 * expression_at k i

-- `left` rules from number i on
unfoldable pub rules_words : Contents → (List ℕ → ℕ → List ℕ) → List ℕ → ℕ → ℕ → List ℕ
rules_words k run cs i zero = []
rules_words k run cs i (suc left) = rule_words run cs i (own_at k i) (action_at k i) ++ rules_words k run (after cs (own_at k i) (action_at k i)) (i + 1) left

-- chain c, calls nesting at most d deep
unfoldable pub chain_words : Contents → ℕ → List ℕ → ℕ → List ℕ
unfolding rules_words
chain_words k zero cs c = []
chain_words k (suc d) cs c = rules_words k (chain_words k d) cs (first_of k c) (rules_in k c)
