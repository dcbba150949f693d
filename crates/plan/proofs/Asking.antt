-- The asked port is the first whose number is the asked one.
use Rattle.std.specs.Prelude.{Some, cond}
use Rattle.std.specs.List.{position_from}
use Rattle.std.proofs.Common.{◌≡◌, ℕ, zero, suc, ◌+◌, ◌≤◌, ◌<◌, Bool, true, false, List, length, take, drop, get_or, eqb, refl, add-one, arith}
use Rattle.std.proofs.Math.Seq.{drop-cons}
use Rattle.model.specs.Answer.{when}
use Rattle.plan.specs.Contents.{asked}

-- n ports from port i on
pub asked_from : (number : List ℕ) (port i n : ℕ) → i + n ≤ length number → asked number port i n ≡ position_from (λ x. eqb x port) i (take n (drop i number))
unfolding asked
asked_from number port i zero h = refl
asked_from number port i (suc n) h = let here : i < length number = omega arith in rw (drop-cons number i 0) (go (eqb (get_or number i 0) port) (rw add-one (asked_from number port (suc i) n (omega arith))))
  where
    go : (b : Bool) → asked number port (suc i) n ≡ position_from (λ x. eqb x port) (i + 1) (take n (drop (suc i) number))
        → when b (Some i) (asked number port (suc i) n) ≡ cond b (Some i) (position_from (λ x. eqb x port) (i + 1) (take n (drop (suc i) number)))
    go true e = refl
    go false e = e
