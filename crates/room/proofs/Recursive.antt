-- In a book without loops a chain's need is counted by the needs of the chains that it calls.
use Prim.Native.Nat.{ℕ, zero, suc, ◌+◌, ◌*◌}
use mathlib.Core.Path.{◌≡◌, refl, ap₂}
use mathlib.Core.List.{List, [], ◌∷◌}
use lib.ListN.{length}
use Rattle.model.specs.Calls.{chain_of, CallIn, here, later, LoopFree}
use Rattle.model.specs.Tree.{Rule, Book, Action}
use Rattle.model.specs.Tree.Action.{accept, drop, reject, log, empty, return, call}
use Rattle.model.proofs.DepthEnough.{recursive}
use Rattle.book.specs.declared.Contents.{Contents}
use Rattle.calls.specs.Actions.{Actions}
use Rattle.calls.specs.Weights.{Ranked}
use Rattle.room.specs.declared.Need.{Need}
use Rattle.room.specs.Counting.{nothing, put, held_after, counted, actions_of, chain_need}
use Rattle.room.specs.Capped.{Counting}

put_local : (f g : ℕ → Need) (a : Action) → ((c : ℕ) → a ≡ call c → f c ≡ g c) → put f a ≡ put g a
put_local f g accept h = refl
put_local f g drop h = refl
put_local f g reject h = refl
put_local f g log h = refl
put_local f g empty h = refl
put_local f g return h = refl
put_local f g (call c) h = h c refl

counted_local : (held : ℕ) (f g : ℕ → Need) (rs : List Rule) → ((c : ℕ) → CallIn c rs → f c ≡ g c) → counted f held (actions_of rs) ≡ counted g held (actions_of rs)
unfolding counted
counted_local held f g [] h = refl
counted_local held f g (r ∷ rs) h =
    ap₂ (λ (p q : Need). record { rules = p.rules + q.rules; words = p.words + held * p.rules + q.words })
    (put_local f g r.action (λ c e. h c (here e))) (counted_local (held_after held r.action) f g rs (λ c k. h c (later k)))

module _ (b : Book) (free : LoopFree b) where
  none : (f : ℕ → Need) → counted f 1 [] ≡ nothing
  unfolding counted
  none f = refl

  first : (c : ℕ) → chain_need zero b c ≡ nothing
  unfolding chain_need
  first c = refl

  then : (n c : ℕ) → chain_need (suc n) b c ≡ counted (chain_need n b) 1 (actions_of (chain_of b c))
  unfolding chain_need
  then n c = refl

  pub need_recursive : (c : ℕ) → chain_need (length b.chains) b c ≡ counted (chain_need (length b.chains) b) 1 (actions_of (chain_of b c))
  need_recursive = recursive b free nothing (λ f rs. counted f 1 (actions_of rs)) (λ n. chain_need n b) first then none (counted_local 1)

-- the model's need counts by any ranks
pub counting : {b : Book} {k : Contents} → Actions b k → LoopFree b → {rank : ℕ → ℕ} → Ranked k rank → Counting k rank (chain_need (length b.chains) b)
counting {b} acts free by = record {
  ranked = by;
  recursive = λ c lt. rw (← acts.actions c lt) (need_recursive b free c);
}
