-- A book's contents as the code holds them, and what walking over them relies on.
use Rattle.std.specs.Prelude.{ℕ, zero, suc, ◌+◌, ◌-◌, ◌≤◌, ◌<◌, ◌≡◌, List, [], ◌∷◌, ◌++◌, map, replicate, length, get_or}
use Rattle.model.specs.Limits.{chains_most, rules_most}
use Rattle.model.specs.Reader.{choose}
use Rattle.model.specs.Calls.{chain_of}
use Rattle.model.specs.Tree as tree
use Rattle.model.specs.Tree.{Rule, Book, place_of, rules_of}
use Rattle.model.specs.Tree.Action.{accept, drop, reject, log, empty, return, call}
use Rattle.model.specs.Filling.{padded}
use Rattle.book.specs.declared.Contents.{Contents}
use Rattle.book.specs.declared.ChainNumber.{ChainNumber}
use Rattle.book.specs.declared.NotedRule.{NotedRule}
use Rattle.book.specs.declared.Action.{Action}
use Rattle.book.specs.declared.Action.TheVariants.{Accept, Drop, Reject, Log, Empty, Return, Call}
use Rattle.book.specs.declared.Verdict.{Verdict}
use Rattle.book.specs.declared.Verdict.TheVariants as verdict

abbrev pub chain_number : ℕ → ChainNumber
chain_number c = record { 0 = c }

-- an action of the code in the model's words, and back
abbrev pub said : Action → tree.Action
said Accept = accept
said Drop = drop
said Reject = reject
said Log = log
said Empty = empty
said Return = return
said (Call c) = call c.0

abbrev pub held : tree.Action → Action
held accept = Accept
held drop = Drop
held reject = Reject
held log = Log
held empty = Empty
held return = Return
held (call c) = Call (chain_number c)

-- document 01's numbers of the actions, and the called chain
abbrev pub action_number : tree.Action → ℕ
action_number accept = 0
action_number drop = 1
action_number reject = 2
action_number log = 3
action_number empty = 4
action_number return = 5
action_number (call c) = 6

abbrev pub target_number : tree.Action → ℕ
target_number accept = 0
target_number drop = 0
target_number reject = 0
target_number log = 0
target_number empty = 0
target_number return = 0
target_number (call c) = c

-- the action that two numbers say; 6 is a call of the target
abbrev pub action_of : ℕ → ℕ → tree.Action
action_of a t = choose a (accept ∷ drop ∷ reject ∷ log ∷ empty ∷ return ∷ call t ∷ []) accept

-- a policy or a verdict in document 01's numbers, and back: 0 accept, 1 drop
abbrev pub verdict_number : Verdict → ℕ
verdict_number verdict.Accept = 0
verdict_number verdict.Drop = 1

abbrev pub verdict_of : ℕ → Verdict
verdict_of zero = verdict.Accept
verdict_of (suc n) = verdict.Drop

-- the number of each chain's first rule, where i rules stand before the first chain, and last the total
unfoldable pub starts : ℕ → List (List Rule) → List ℕ
starts i [] = i ∷ []
starts i (c ∷ cs) = i ∷ starts (i + length c) cs

-- what is noted of a rule, and what stands in the slots that are not used
abbrev pub note_of : Rule → NotedRule
note_of r = record { place = r.place; action = held r.action; expression = place_of r.match; end = r.next }

abbrev pub no_note : NotedRule
no_note = record { place = 0; action = Accept; expression = 0; end = 0 }

abbrev pub notes_of : List Rule → List NotedRule
notes_of rs = map note_of rs ++ replicate (rules_most - length rs) no_note

-- the contents of a book
unfoldable pub contents_of : Book → Contents
unfolding starts
contents_of b = record {
  policy = verdict_of b.policy;
  chains = length b.chains;
  rules = b.total;
  first = padded (suc chains_most) (starts 0 b.chains);
  noted = notes_of (rules_of b);
}

-- what the contents say of a rule by its number
abbrev pub note_at : Contents → ℕ → NotedRule
note_at k i = get_or k.noted i no_note

abbrev pub action_at : Contents → ℕ → tree.Action
action_at k i = said (note_at k i).action

abbrev pub expression_at : Contents → ℕ → ℕ
expression_at k i = (note_at k i).expression

-- the number of the first rule of chain c; and how many rules it has
abbrev pub first_of : Contents → ℕ → ℕ
first_of k c = get_or k.first c 0

abbrev pub rules_in : Contents → ℕ → ℕ
rules_in k c = first_of k (c + 1) - first_of k c

-- what holds of the contents alone
pub record Shape (k : Contents) : Type 0 where
  pub some : 0 < k.chains
  pub few : k.chains ≤ chains_most
  pub room : k.rules ≤ rules_most
  pub rising : (c : ℕ) → c < k.chains → first_of k c ≤ first_of k (c + 1)
  pub inside : (c : ℕ) → c < k.chains → first_of k (c + 1) ≤ k.rules
  pub known : (i d : ℕ) → i < k.rules → action_at k i ≡ call d → d < k.chains

-- rule number i of the contents is r
pub record Noted (k : Contents) (i : ℕ) (r : Rule) : Type 0 where
  pub number : r.number ≡ i
  pub act : r.action ≡ action_at k i
  pub match : place_of r.match ≡ expression_at k i

-- the rules from number i on
abbrev pub NotedAll : Contents → ℕ → List Rule → Type 0
NotedAll k i [] = Unit {0}
NotedAll k i (r ∷ rs) = Noted k i r × NotedAll k (suc i) rs

-- the contents are those of b: its chains can be walked by them
pub record Charted (b : Book) (k : Contents) : Type 0 where
  pub shape : Shape k
  pub count : length b.chains ≡ k.chains
  pub total : b.total ≡ k.rules
  pub sizes : (c : ℕ) → c < k.chains → length (chain_of b c) ≡ rules_in k c
  pub noted : (c : ℕ) → c < k.chains → NotedAll k (first_of k c) (chain_of b c)
