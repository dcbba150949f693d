-- In a book without loops the chains that a chain reaches are fewer at each call, and so are their rules: the called chain is left out.
use Prim.Native.Nat.{ℕ, zero, suc, ◌+◌, ◌-◌, ◌≤◌, ◌<◌}
use native.Mathlib.Omega.{arith}
use native.Mathlib.Decide.{ℕ_discrete}
use native.Mathlib.Numerals.{add-one}
use mathlib.Core.Path.{◌≡◌, refl, ap, ◌∙◌}
use mathlib.Core.Bool.{Bool, true, false}
use mathlib.Core.List.{List, [], ◌∷◌}
use lib.ListN.{length}
use Rattle.model.specs.Limits.{book_bytes}
use Rattle.model.specs.Tree.{Rule, Book, place_of, Every}
use Rattle.model.specs.Tree.Action.{call}
use Rattle.model.specs.Calls.{chain_of, reaches, CallIn, here, later, direct, through, LoopFree}
use Rattle.model.proofs.EveryRule.{every_at}
use Rattle.model.proofs.LoopsExact.{reaches_exactly}
use Rattle.book.specs.Contents.{action_at, expression_at, first_of, rules_in, NotedAll, Charted}
use Rattle.book.specs.declared.Contents.{Contents}
use Rattle.unfolding.specs.Walking.{RuleOf, CallOf, Ordered}
use Rattle.unfolding.specs.Unfolded.{Near}
use Rattle.unfolding.proofs.Sums.{sum, sum_more, sum_ones}

-- a rule that the contents say calls a chain does
noted_call : (k : Contents) (i : ℕ) (rs : List Rule) → NotedAll k i rs → (j d : ℕ) → i ≤ j → j < i + length rs → action_at k j ≡ call d → CallIn d rs
noted_call k i [] q j d le lt e = absurd (omega arith)
noted_call k i (r ∷ rs) q j d le lt e = elim (ℕ_discrete i j) [
  | yes s ↦ here (q.0.act ∙ ap (action_at k) s ∙ e)
  | no ne ↦ later (noted_call k (suc i) rs q.1 j d (omega arith) (omega arith) e)
]

-- and its expression stands where they say
noted_near : (n : ℕ) (k : Contents) (i : ℕ) (rs : List Rule) → NotedAll k i rs → Every (λ (r : Rule). place_of r.match ≤ n) rs → (j : ℕ) → i ≤ j → j < i + length rs → expression_at k j ≤ n
noted_near n k i [] q h j le lt = absurd (omega arith)
noted_near n k i (r ∷ rs) q h j le lt = elim (ℕ_discrete i j) [
  | yes s ↦ omega (arith, q.0.match, h.0, ap (expression_at k) s)
  | no ne ↦ noted_near n k (suc i) rs q.1 h.1 j (omega arith) (omega arith)
]

-- the walk can begin at the entry
pub record FromEntry (k : Contents) : Type 0 where
  pub order : Ordered k
  pub there : 0 < k.chains
  pub deep : order.rank 0 < k.chains
  pub holds : rules_in k 0 + order.under 0 ≤ k.rules

module _ (b : Book) (k : Contents) (is : Charted b k) (free : LoopFree b) where
  abbrev reach : ℕ → ℕ → Bool
  reach = reaches (length b.chains) b

  not_itself : (c : ℕ) → reach c c ≡ false
  not_itself c = go (reach c c) refl
    where
      go : (x : Bool) → reach c c ≡ x → x ≡ false
      go true e = absurd (free c ((reaches_exactly b c c).0 e))
      go false e = refl

  -- of the chains that c reaches
  abbrev over : (ℕ → ℕ) → ℕ → ℕ
  over w c = sum k.chains (reach c) w

  over_falls : (w : ℕ → ℕ) (c e : ℕ) → e < k.chains → CallIn e (chain_of b c) → w e + over w e ≤ over w c
  over_falls w c e lt q = sum_more (reach e) (reach c) w (λ x h. (reaches_exactly b c x).1 (through q ((reaches_exactly b e x).0 h))) k.chains e lt (not_itself e) ((reaches_exactly b c e).1 (direct q))

  over_all : (w : ℕ → ℕ) (c : ℕ) → c < k.chains → w c + over w c ≤ sum k.chains (λ x. true) w
  over_all w c lt = sum_more (reach c) (λ x. true) w (λ x h. refl) k.chains c lt (not_itself c) refl

  inside : (c i : ℕ) → RuleOf k c i → i < first_of k c + length (chain_of b c)
  inside c i r = omega (arith, is.sizes c r.chain, r.upto)

  calls : (c i e : ℕ) → CallOf k c i e → CallIn e (chain_of b c)
  calls c i e h = noted_call k (first_of k c) (chain_of b c) (is.noted c h.rule.chain) i e h.rule.from (inside c i h.rule) h.calls

  known : (c i e : ℕ) → CallOf k c i e → e < k.chains
  known c i e h = is.shape.known i e (omega (arith, h.rule.upto, is.shape.inside c h.rule.chain)) h.calls

  -- the rules of all chains
  all_rules_lem : (n : ℕ) → n ≤ k.chains → sum n (λ x. true) (rules_in k) ≤ first_of k n
  unfolding sum
  all_rules_lem zero h = omega arith
  all_rules_lem (suc n) h = omega (arith, all_rules_lem n (omega arith), is.shape.rising n h, ap (first_of k) (add-one n))

  ordered : Near b → Ordered k
  ordered near = record {
    shape = is.shape;
    near = λ c i r. noted_near book_bytes k (first_of k c) (chain_of b c) (is.noted c r.chain) (every_at _ b.chains c [] (omega (arith, is.count, r.chain)) near) i r.from (inside c i r);
    rank = over (λ c. 1);
    under = over (rules_in k);
    falls = λ c i e h. omega (arith, over_falls (λ c. 1) c e (known c i e h) (calls c i e h));
    holds = λ c i e h. over_falls (rules_in k) c e (known c i e h) (calls c i e h);
  }

  -- NO PLACE HAS MORE CONDITIONS THAN THE BOOK HAS RULES, and the count of chains is depth enough
  pub from_entry : Near b → FromEntry k
  unfolding ordered
  from_entry near =
      let last : first_of k (k.chains - 1 + 1) ≤ k.rules = is.shape.inside (k.chains - 1) (omega (arith, is.shape.some)) in
      let e : k.chains - 1 + 1 ≡ k.chains = omega (arith, is.shape.some) in
      record {
        order = ordered near;
        there = is.shape.some;
        deep = omega (arith, over_all (λ c. 1) 0 is.shape.some, sum_ones k.chains);
        holds = omega (arith, over_all (rules_in k) 0 is.shape.some, all_rules_lem k.chains (omega arith), ap (first_of k) e);
      }
