-- What users above start from: the contents of a book give its actions, and the ranks of a book that passes fall at every call.
use Prim.Native.Nat.{ℕ, zero, suc, ◌≤◌, ◌<◌}
use native.Mathlib.Omega.{arith}
use mathlib.Core.Path.{◌≡◌, refl, ap₂}
use mathlib.Core.Bool.{Bool, true, false}
use mathlib.Core.List.{List, [], ◌∷◌, map}
use mathlib.Core.Option.{Option, none, some}
use lib.ListN.{length, get_or}
use lib.Dec.{leb}
use borrow.Author.Tests.{leb-true}
use Rattle.model.specs.Answer.{Answer, fine, refused, when, ◌>>=◌}
use Rattle.model.specs.Reader.{Stand, got}
use Rattle.model.specs.Limits.{weight_most}
use Rattle.model.specs.Calls.{chain_of, LoopFree, lowest_loop, weight, loop_free, light_enough, checked}
use Rattle.model.specs.Tree.{Rule, Book}
use Rattle.model.proofs.LoopsExact.{lowest_none}
use Rattle.book.specs.Contents.{first_of, Charted, NotedAll}
use Rattle.book.specs.declared.Contents.{Contents}
use Rattle.calls.specs.Sets.{rank_of}
use Rattle.calls.specs.Actions.{Actions, actions_at}
use Rattle.calls.specs.Reached.{Reached}
use Rattle.calls.specs.Weights.{rank_in, Ranked}
use Rattle.calls.specs.Checked.{Passes}
use Rattle.calls.proofs.Graph.{ranked}
use Rattle.calls.proofs.Levels.{same_ranks}

noted_actions : (k : Contents) (i n : ℕ) (rs : List Rule) → length rs ≡ n → NotedAll k i rs → map (λ (r : Rule). r.action) rs ≡ actions_at k i n
unfolding actions_at
noted_actions k i zero [] e h = refl
noted_actions k i (suc n) (r ∷ rs) e h = ap₂ ◌∷◌ h.0.act (noted_actions k (suc i) n rs (omega arith) h.1)
noted_actions k i zero (r ∷ rs) e h = absurd (omega arith)
noted_actions k i (suc n) [] e h = absurd (omega arith)

pub charted_actions : {b : Book} {k : Contents} → Charted b k → Actions b k
charted_actions {b} {k} h = record {
  shape = h.shape;
  count = h.count;
  actions = λ c lt. noted_actions k (first_of k c) _ (chain_of b c) (h.sizes c lt) (h.noted c lt);
}

-- what a book that passes has
module _ (b : Book) where
  light_by : (t : Bool) → leb (weight (length b.chains) b 0) weight_most ≡ t → ◌≡◌ {A = Answer Book} (when t (fine b) (refused 10 0)) (fine b) → weight (length b.chains) b 0 ≤ weight_most
  light_by true e h = leb-true (weight (length b.chains) b 0) weight_most e
  light_by false e h = absurd (let z : ◌≡◌ {A = ℕ} 0 1 = cc in omega arith)

  passes_by : (o : Option ℕ) → lowest_loop (length b.chains) 0 b ≡ o → ◌>>=◌ (loop_free b o) light_enough ≡ fine b → Passes b
  passes_by none e h = record { free = (lowest_none b).0 e; light = light_by (leb (weight (length b.chains) b 0) weight_most) refl h }
  passes_by (some c) e h = absurd (let z : ◌≡◌ {A = ℕ} 0 1 = cc in omega arith)

  pub passes : (st : Stand) → checked (got b st) ≡ fine b → Passes b
  passes st h = passes_by (lowest_loop (length b.chains) 0 b) refl h

-- ITS RANKS FALL at every call, and are below the number of chains
pub ranks_fall : {b : Book} {k : Contents} → Charted b k → (sets : List ℕ) → Reached b sets
    → (ranks : List ℕ) → ((c : ℕ) → c < k.chains → get_or ranks c 0 ≡ rank_of sets c)
    → LoopFree b → Ranked k (rank_in ranks)
ranks_fall h sets all ranks e free = same_ranks (rank_in ranks) h.shape e (ranked (charted_actions h) sets all free)

pub passed_ranks : {b : Book} {k : Contents} → Charted b k → (st : Stand) → checked (got b st) ≡ fine b
    → (sets : List ℕ) → Reached b sets → (ranks : List ℕ) → ((c : ℕ) → c < k.chains → get_or ranks c 0 ≡ rank_of sets c) → Ranked k (rank_in ranks)
passed_ranks {b} h st p sets all ranks e = ranks_fall h sets all ranks e (passes b st p).free
