-- What `room` asks for holds of a book: an entry with a return and then a call, and a chain that accepts. Its list is 0 2 3 11 20 26 1 3 0.
use Prim.Native.Nat.{ℕ, zero, suc, ◌+◌, ◌≤◌, ◌<◌}
use native.Mathlib.Omega.{arith}
use mathlib.Core.Path.{◌≡◌, refl}
use mathlib.Core.List.{List, [], ◌∷◌}
use Rattle.model.specs.Tree.{Book}
use Rattle.model.specs.Tree.Action.{accept, return, call}
use Rattle.model.specs.Tree.Expr.{always, leaf}
use Rattle.model.specs.Tree.Leaf.{source}
use Rattle.model.specs.Calls.{lowest_loop, weight}
use Rattle.model.specs.Unfolding.{list_of, words_of}
use Rattle.model.proofs.LoopsExact.{lowest_none}
use Rattle.book.specs.Contents.{chain_number, action_at, first_of, Charted}
use Rattle.book.specs.declared.Contents.{Contents}
use Rattle.book.specs.declared.Action.TheVariants.{Accept, Return, Call}
use Rattle.book.specs.declared.Verdict.TheVariants as verdict
use Rattle.calls.specs.Checked.{Passes}
use Rattle.calls.specs.Weights.{rank_in, CallAt, Ranked}
use Rattle.room.specs.Counting.{chain_need, need_of}

book : Book
book = record {
  policy = 1;
  total = 3;
  chains = (
      record { number = 0; place = 4; action = return; match = leaf 5 (source 0 9); next = 8 }
      ∷ record { number = 1; place = 8; action = call 1; match = always 10; next = 11 }
      ∷ []
      ) ∷ (record { number = 2; place = 12; action = accept; match = always 13; next = 14 } ∷ []) ∷ [];
}

contents : Contents
contents = record {
  policy = verdict.Drop;
  chains = 2;
  rules = 3;
  first = 0 ∷ 2 ∷ 3 ∷ [];
  noted = record { place = 4; action = Return; expression = 5; end = 8 }
      ∷ record { place = 8; action = Call (chain_number 1); expression = 10; end = 11 }
      ∷ record { place = 12; action = Accept; expression = 13; end = 14 } ∷ [];
}

ranks : List ℕ
ranks = 1 ∷ 0 ∷ []

below_two : (P : ℕ → Type 0) → P 0 → P 1 → (c : ℕ) → c < 2 → P c
below_two P a b zero h = a
below_two P a b (suc zero) h = b
below_two P a b (suc (suc n)) h = absurd (omega arith)

-- its one call
called : (i d : ℕ) → i < 3 → action_at contents i ≡ call d → (i ≡ 1) × (d ≡ 1)
unfolding contents
called zero d h q = absurd (let z : ◌≡◌ {A = ℕ} 0 1 = cc in omega arith)
called (suc zero) d h q = (refl, cc)
called (suc (suc zero)) d h q = absurd (let z : ◌≡◌ {A = ℕ} 0 1 = cc in omega arith)
called (suc (suc (suc n))) d h q = absurd (omega arith)

charted : Charted book contents
unfolding book contents
charted = record {
  shape = record {
    some = omega arith;
    few = omega arith;
    room = omega arith;
    rising = below_two (λ c. first_of contents c ≤ first_of contents (c + 1)) (omega arith) (omega arith);
    inside = below_two (λ c. first_of contents (c + 1) ≤ 3) (omega arith) (omega arith);
    known = λ i d h q. let e = called i d h q in omega arith;
  };
  count = refl;
  total = refl;
  sizes = below_two _ refl refl;
  noted = below_two _
      (record { number = refl; act = refl; match = refl }, (record { number = refl; act = refl; match = refl }, tt))
      (record { number = refl; act = refl; match = refl }, tt);
}

ranked : Ranked contents (rank_in ranks)
unfolding contents ranks
ranked = record {
  falls = λ c i d lt. below_two (λ c. CallAt contents c i d → rank_in ranks d < rank_in ranks c)
      (λ q. let e = called i d (omega (arith, q.to)) q.calls in rw e.1 (omega arith))
      (λ q. let e = called i d (omega (arith, q.to)) q.calls in absurd (omega (arith, q.from)))
      c lt;
  below = below_two (λ c. rank_in ranks c < 2) (omega arith) (omega arith);
}

passes : Passes book
unfolding book weight lowest_loop
passes = record { free = (lowest_none book).0 refl; light = omega arith }

counted_so : chain_need 2 book 0 ≡ record { rules = 1; words = 6 }
unfolding book chain_need
counted_so = refl

listed_so : need_of book ≡ record { rules = 2; words = 9 }
unfolding book list_of words_of
listed_so = refl
