-- What a rule puts and holds, by its action.
use Prim.Native.Nat.{ℕ, ◌+◌}
use native.Mathlib.Omega.{arith}
use mathlib.Core.Path.{◌≡◌, refl}
use Rattle.model.specs.Tree.{Action}
use Rattle.model.specs.Tree.Action.{accept, drop, reject, log, empty, return, call}
use Rattle.book.specs.Contents.{said}
use Rattle.book.specs.declared.Action as code
use Rattle.book.specs.declared.Action.TheVariants.{Accept, Drop, Reject, Log, Empty, Return, Call}
use Rattle.room.specs.declared.Need.{Need}
use Rattle.room.specs.Counting.{one, nothing, put, held_after}
use Rattle.room.specs.Capped.{least, Small}

one_small : Small one
one_small = record { rules = omega arith; words = omega arith }

pub none_small : Small nothing
none_small = record { rules = omega arith; words = omega arith }

module _ (g : ℕ → Need) where
  -- where the called chain's need is capped, so is what the rule puts
  pub put_least : (f : ℕ → Need) (a : Action) → ((d : ℕ) → a ≡ call d → g d ≡ least (f d)) → put g a ≡ least (put f a)
  put_least f accept h = refl
  put_least f drop h = refl
  put_least f reject h = refl
  put_least f log h = refl
  put_least f empty h = refl
  put_least f return h = refl
  put_least f (call d) h = h d refl

  small_by : ((d : ℕ) → Small (g d)) → (a : Action) → Small (put g a)
  small_by h accept = one_small
  small_by h drop = one_small
  small_by h reject = one_small
  small_by h log = none_small
  small_by h empty = none_small
  small_by h return = none_small
  small_by h (call d) = h d

  pub put_small : (a : Action) (own : Need) → own ≡ put g a → ((d : ℕ) → Small (g d)) → Small own
  put_small a own e h = rw e (small_by h a)

pub held_return : (held : ℕ) (a : Action) → a ≡ return → held + 1 ≡ held_after held a
held_return held a e = rw e (omega arith)

pub held_other : (held : ℕ) (a : code.Action) → (a ≡ Return → ⊥) → held ≡ held_after held (said a)
held_other held Accept h = refl
held_other held Drop h = refl
held_other held Reject h = refl
held_other held Log h = refl
held_other held Empty h = refl
held_other held Return h = absurd (h refl)
held_other held (Call d) h = refl
