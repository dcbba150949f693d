-- What the code's inner answers say of the model's readers.
use Rattle.std.specs.Prelude.{ℕ, zero, List}
use Rattle.model.specs.Answer as answer
use Rattle.model.specs.Answer.{Answer, fine}
use Rattle.model.specs.Reader.{Stand, Read, got, refused, Reader, ◌>>=◌, give, each}
use Rattle.model.specs.Tree as tree
use Rattle.model.specs.Tree.{Rule}
use Rattle.model.specs.Tree.Action.{call}
use Rattle.model.specs.Book.{called_chain, chain}
use Rattle.book.specs.Contents.{held, note_of}
use Rattle.book.specs.declared.rules.ActionRead.{ActionRead}
use Rattle.book.specs.declared.rules.RuleRead.{RuleRead}

-- what the code hands back of a reading
abbrev pub answered : {A B : Type 0} → (A → Stand → B) → Read A → Answer B
answered said (got a st) = fine (said a st)
answered said (refused n p) = answer.refused n p

-- what a reading got, if it got something, is so
abbrev pub Finds : {A : Type 0} → Read A → (A → Stand → Type 0) → Type 0
Finds (got a st) P = P a st
Finds (refused n p) P = Unit {0}

-- what stands behind action 6
abbrev pub call_in : ℕ → Reader tree.Action
call_in chains = do
  c ← called_chain chains
  give (call c)

-- the chains of a book that has so many
abbrev pub all_chains : ℕ → Reader (List (List Rule))
all_chains chains = each chains zero (λ i. chain chains)

-- an action and the place after it
abbrev pub action_read : tree.Action → Stand → ActionRead
action_read a st = record { action = held a; next = st.at }

-- a rule as its reading leaves it: what is noted of it, and where it ends
abbrev pub rule_read : Rule → Stand → RuleRead
rule_read r st = record { noted = note_of r; end = record { next = st.at; sources = st.sources } }

-- the place after
abbrev pub place_after : {A : Type 0} → A → Stand → ℕ
place_after a st = st.at
