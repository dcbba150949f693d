-- How many rules and words a chain puts into the unfolded list, without unfolding it. Under k conditions more it puts in as many rules, and k words more for each.
use Rattle.std.specs.Prelude.{ℕ, zero, suc, ◌+◌, ◌*◌, List, [], ◌∷◌, map, length}
use Rattle.model.specs.Calls.{chain_of}
use Rattle.model.specs.Tree.{Rule, Book, Action}
use Rattle.model.specs.Tree.Action.{accept, drop, reject, log, empty, return, call}
use Rattle.model.specs.Unfolding.{list_of, words_of}
use Rattle.room.specs.declared.Need.{Need}

-- a list rule: its action, rule number and count, and no condition yet
abbrev pub one : Need
one = record { rules = 1; words = 3 }

abbrev pub nothing : Need
nothing = record { rules = 0; words = 0 }

-- what a rule puts into the list before the conditions of its chain, where f says it of the called chains
abbrev pub put : (ℕ → Need) → Action → Need
put f accept = one
put f drop = one
put f reject = one
put f log = nothing
put f empty = nothing
put f return = nothing
put f (call c) = f c

-- the conditions that the next rule has of its own chain
abbrev pub held_after : ℕ → Action → ℕ
held_after held accept = held
held_after held drop = held
held_after held reject = held
held_after held log = held
held_after held empty = held
held_after held return = suc held
held_after held (call c) = held

-- rules of a chain of which the first has so many conditions of the chain: the returns before it, and its own match
unfoldable pub counted : (ℕ → Need) → ℕ → List Action → Need
counted f held [] = nothing
counted f held (a ∷ rest) = record {
  rules = (put f a).rules + (counted f (held_after held a) rest).rules;
  words = (put f a).words + held * (put f a).rules + (counted f (held_after held a) rest).words;
}

abbrev pub actions_of : List Rule → List Action
actions_of rs = map (λ (r : Rule). r.action) rs

-- chain c, where calls nest at most n deep
unfoldable pub chain_need : ℕ → Book → ℕ → Need
unfolding counted
chain_need zero b c = nothing
chain_need (suc n) b c = counted (chain_need n b) 1 (actions_of (chain_of b c))

-- what the whole list needs
abbrev pub need_of : Book → Need
need_of b = record { rules = length (list_of b); words = length (words_of (list_of b)) }
