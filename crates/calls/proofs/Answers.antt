-- Refusals 9 and 10 as the model has them.
use Prim.Native.Nat.{ℕ}
use mathlib.Core.Path.{◌≡◌, sym, ap, ◌∙◌}
use mathlib.Core.Bool.{true, false}
use mathlib.Core.Option.{none, some}
use lib.ListN.{length}
use lib.Dec.{ltb}
use borrow.Author.Tests.{ltb-true, ltb-false, le-leb, lt-leb}
use Rattle.model.specs.Answer.{fine, refused, when, ◌>>=◌}
use Rattle.model.specs.Reader.{Stand, got}
use Rattle.model.specs.Calls.{LoopFree, lowest_loop, weight, loop_free, light_enough, checked}
use Rattle.model.specs.Tree.{Book}
use Rattle.model.specs.Limits.{weight_most}
use Rattle.model.proofs.LoopsExact.{lowest_none}

module _ (b : Book) (st : Stand) where
  pub at_loop : (n : ℕ) → some n ≡ lowest_loop (length b.chains) 0 b → refused 9 n ≡ checked (got b st)
  at_loop n e = ap (λ o. ◌>>=◌ (loop_free b o) light_enough) e

  pub free_of : none ≡ lowest_loop (length b.chains) 0 b → LoopFree b
  free_of e = (lowest_none b).0 (sym e)

  pub too_much : none ≡ lowest_loop (length b.chains) 0 b → ltb weight_most (weight (length b.chains) b 0) ≡ true → refused 10 0 ≡ checked (got b st)
  too_much e h = ap (λ t. when t (fine b) (refused 10 0)) (sym (lt-leb (weight (length b.chains) b 0) weight_most (ltb-true weight_most (weight (length b.chains) b 0) h))) ∙ ap (λ o. ◌>>=◌ (loop_free b o) light_enough) e

  pub enough : none ≡ lowest_loop (length b.chains) 0 b → ltb weight_most (weight (length b.chains) b 0) ≡ false → fine b ≡ checked (got b st)
  enough e h = ap (λ t. when t (fine b) (refused 10 0)) (sym (le-leb (weight (length b.chains) b 0) weight_most (ltb-false weight_most (weight (length b.chains) b 0) h))) ∙ ap (λ o. ◌>>=◌ (loop_free b o) light_enough) e
