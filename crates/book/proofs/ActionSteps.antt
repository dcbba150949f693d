-- An action and the chain that it calls: one law for each way through the code.
use Prim.Native.Nat.{ℕ, suc, ◌-◌, ◌<◌}
use mathlib.Core.Bool.{true, false, ◌&&◌}
use mathlib.Core.List.{List}
use mathlib.Core.Path.{◌≡◌}
use native.Mathlib.Omega.{arith}
use lib.Dec.{ltb}
use Rattle.model.specs.Answer as answer
use Rattle.model.specs.Answer.{Answer, fine}
use Rattle.model.specs.Reader.{refused, got, refuse, choose}
use Rattle.model.specs.Number.{number, number_at}
use Rattle.model.specs.Book.{action_in}
use Rattle.model.proofs.Branches.{actions}
use Rattle.numbers.specs.Told.{numbered}
use Rattle.numbers.specs.declared.Number.{Number}
use Rattle.expressions.specs.Told.{stand}
use Rattle.book.specs.Contents.{chain_number}
use Rattle.book.specs.Inner.{answered, action_read, call_in}
use Rattle.book.specs.declared.Action.TheVariants.{Call}
use Rattle.book.specs.declared.rules.ActionRead.{ActionRead}
use Rattle.book.proofs.Afterwards.{number_read}

module _ (chains : ℕ) (s : List ℕ) (at : ℕ) where
  abbrev IsCall : Answer ActionRead → Type 0
  IsCall r = (rules sources : ℕ) → r ≡ answered action_read (call_in chains s (stand at rules sources))

  abbrev IsAction : Answer ActionRead → Type 0
  IsAction r = (rules sources : ℕ) → r ≡ answered action_read (action_in chains s (stand at rules sources))

  module _ (n p : ℕ) (e : answer.refused n p ≡ numbered at (number_at s at)) where
    pub call_refused : IsCall (answer.refused n p)
    call_refused rules sources = let k : number s (stand at rules sources) ≡ refused n p = number_read s _ _ e in rw k

    pub action_refused : IsAction (answer.refused n p)
    action_refused rules sources = let k : number s (stand at rules sources) ≡ refused n p = number_read s _ _ e in rw k

  module _ (n : Number) (e : fine n ≡ numbered at (number_at s at)) where
    pub call_none : (ltb 0 n.value && ltb n.value chains) ≡ false → IsCall (answer.refused 5 at)
    call_none t rules sources = let k : number s (stand at rules sources) ≡ got n.value (stand n.next rules sources) = number_read s _ _ e in rw (k, t)

    pub call_got : (ltb 0 n.value && ltb n.value chains) ≡ true → IsCall (fine (record { action = Call (chain_number n.value); next = n.next }))
    call_got t rules sources = let k : number s (stand at rules sources) ≡ got n.value (stand n.next rules sources) = number_read s _ _ e in rw (k, t)

    -- what the model chooses by the number
    abbrev Chosen : ℕ → ℕ → ℕ → Answer ActionRead
    Chosen v rules sources = answered action_read (choose v (actions chains) (refuse 4 at) s (stand n.next rules sources))

    pub action_chosen : (v : ℕ) → n.value ≡ v → (rules sources : ℕ) → Chosen v rules sources ≡ answered action_read (action_in chains s (stand at rules sources))
    action_chosen v q rules sources = let k : number s (stand at rules sources) ≡ got n.value (stand n.next rules sources) = number_read s _ _ e in rw (k, q)

    pub action_none : 6 < n.value → IsAction (answer.refused 4 at)
    action_none h = action_chosen (suc (suc (suc (suc (suc (suc (suc (n.value - 7)))))))) (omega arith)
