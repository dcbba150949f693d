-- A closed table against the book: it is Reach; its lowest own chain is the lowest loop; without loops its sizes rank the chains.
use Prim.Native.Nat.{ℕ, ◌-◌, ◌^◌, ◌≤◌, ◌<◌}
use native.Mathlib.Omega.{arith}
use native.Mathlib.Decide.{dec_lt}
use mathlib.Core.Path.{◌≡◌, sym, ap, subst, ◌∙◌}
use mathlib.Core.Bool.{false, false≢true}
use mathlib.Core.List.{List}
use mathlib.Core.Option.{none, some}
use lib.ListN.{length, get_or}
use lib.Seq.{ext_get_or}
use lib.Count.{count_trailing_zeros, ones-ones}
use lib.Pow.{pow_mono, pow_pos}
use borrow.Author.Tests.{lt-ltb, le-ltb}
use Rattle.model.specs.Calls.{chain_of, CallIn, Reach, direct, through, LoopFree, lowest_loop, weight}
use Rattle.model.specs.Tree.{Book}
use Rattle.model.proofs.DepthEnough.{weight_recursive}
use Rattle.model.proofs.LoopsExact.{lowest_none, lowest_some}
use Rattle.calls.specs.Sets.{has, in_row, Table, Holds, rank_of}
use Rattle.book.specs.Contents.{first_of, rules_in}
use Rattle.book.specs.declared.Contents.{Contents}
use Rattle.calls.specs.Actions.{Actions}
use Rattle.calls.specs.Reached.{calls, reach, Reached}
use Rattle.calls.specs.Weights.{CallAt, Ranked, Weighing}
use Rattle.calls.proofs.Bits.{has_nothing, lowest_below, lowest_in, lowest_first, ones_less, has_ones, same_bits}
use Rattle.calls.proofs.Books.{weigh_book, calls_book, calls_beyond, calls_call, call_calls}
use Rattle.calls.proofs.Warshall.{reach_same, reach_exactly}
use Rattle.calls.proofs.Rules.{Below, calls_within, rule_calls}
use Rattle.model.specs.Limits.{chains_most}
use Rattle.calls.proofs.Bools.{same, not_true}

-- a caller is in the book
pub caller_within : (b : Book) (c d : ℕ) → CallIn d (chain_of b c) → c < length b.chains
caller_within b c d k = elim (dec_lt c (length b.chains)) [
  | yes lt ↦ lt
  | no ge ↦ absurd (false≢true (sym (calls_beyond b c d (omega arith)) ∙ call_calls b c d k))
]

pub reach_within : (b : Book) {c d : ℕ} → Reach b c d → c < length b.chains
reach_within b {c} {d} (direct k) = caller_within b c d k
reach_within b {c} (through {e = e} k r) = caller_within b c e k

module _ {b : Book} {k : Contents} (acts : Actions b k) where
  pub few_enough : length b.chains ≤ chains_most
  few_enough = rw acts.count acts.shape.few

  -- so is the called chain
  called_within : (c d : ℕ) → CallIn d (chain_of b c) → d < length b.chains
  called_within c d j =
      let n = acts.count in
      let lt : c < k.chains = subst (λ m. c < m) n (caller_within b c d j) in
      let up = acts.shape.rising c lt in
      let in' = acts.shape.inside c lt in
      rw n (calls_within k d (rules_in k c) (first_of k c) k.chains (calls_book acts c d lt ∙ call_calls b c d j) (λ i a l q. acts.shape.known i d (omega arith) q))

  pub calls_table : (sets : List ℕ) → Below k k.chains sets → Table sets (calls b)
  calls_table sets h c d lc ld = h c d lc ld ∙ elim (dec_lt c k.chains) [
    | yes lt ↦ rw (lt-ltb c k.chains lt) (calls_book acts c d lt)
    | no ge ↦ rw (le-ltb c k.chains (omega arith)) (sym (calls_beyond b c d (rw acts.count (omega arith))))
  ]

  -- THE CLOSED TABLE IS REACH
  pub closed_reached : (sets after : List ℕ) → Table sets (calls b) → Holds after (reach (in_row sets) k.chains) → Reached b after
  closed_reached sets after t h = record {
    fit = h.fit;
    exactly = λ c d lc ld.
        let e : in_row after c d ≡ reach (calls b) (length b.chains) c d = h.bits c d lc ld
        ∙ reach_same (in_row sets) (calls b) t k.chains c d acts.shape.few lc ld ∙ ap (λ n. reach (calls b) n c d) (sym acts.count) in
        (λ q. (reach_exactly b called_within c d).0 (sym e ∙ q), λ r. e ∙ (reach_exactly b called_within c d).1 r);
  }

  -- a rule of c that calls
  pub rule_call : (c i d : ℕ) → c < k.chains → CallAt k c i d → CallIn d (chain_of b c)
  rule_call c i d lt at = calls_call b c d (sym (calls_book acts c d lt) ∙ rule_calls k d (rules_in k c) (first_of k c) i at.from (omega (arith, at.to)) at.calls)

module _ (b : Book) (few : length b.chains ≤ chains_most) (sets : List ℕ) (all : Reached b sets) (out : ℕ) (own : (d : ℕ) → d < chains_most → has out d ≡ in_row sets d d) where
  not_own : (d : ℕ) → d < chains_most → has out d ≡ false → ¬ Reach b d d
  not_own d l e r = false≢true (sym e ∙ own d l ∙ (all.exactly d d l l).1 r)

  pub no_loop : out ≡ 0 → none ≡ lowest_loop (length b.chains) 0 b
  no_loop z = sym ((lowest_none b).1 (λ c r. let k = reach_within b r in not_own c (omega arith) (ap (λ n. has n c) z ∙ has_nothing c) r))

  pub a_loop : out < 2 ^ chains_most → 0 < out → some (count_trailing_zeros 64 out) ≡ lowest_loop (length b.chains) 0 b
  a_loop h pos =
      let l = lowest_below out h pos in
      sym ((lowest_some b (count_trailing_zeros 64 out)).1 ((all.exactly _ _ l l).0 (sym (own (count_trailing_zeros 64 out) l) ∙ lowest_in out h pos), λ d lt. not_own d (omega arith) (lowest_first out d lt)))

-- WITHOUT LOOPS, the number of chains that a chain reaches falls at each call, and is below the number of chains
module _ {b : Book} {k : Contents} (acts : Actions b k) (sets : List ℕ) (all : Reached b sets) (free : LoopFree b) where
  in_range : (c : ℕ) → c < length b.chains → c < chains_most
  in_range c lt = omega (arith, acts.count, acts.shape.few)

  reached_within : {c d : ℕ} → Reach b c d → d < length b.chains
  reached_within {c} {d} (direct k) = called_within acts c d k
  reached_within (through k r) = reached_within r

  not_itself : (c : ℕ) → c < chains_most → has (get_or sets c 0) c ≡ false
  unfolding in_row
  not_itself c lt = not_true (has (get_or sets c 0) c) (λ q. free c ((all.exactly c c lt lt).0 q))

  pub rank_falls : (c d : ℕ) → CallIn d (chain_of b c) → rank_of sets d < rank_of sets c
  unfolding in_row
  rank_falls c d k =
      let lc = in_range c (caller_within b c d k) in
      let ld = in_range d (called_within acts c d k) in
      ones_less chains_most (get_or sets d 0) (get_or sets c 0) d (all.fit.words d) (all.fit.words c)
      (λ i l q. (all.exactly c i lc l).1 (through k ((all.exactly d i ld l).0 q))) ld (not_itself d ld) ((all.exactly c d lc ld).1 (direct k))

  pub rank_below : (c : ℕ) → c < length b.chains → rank_of sets c < length b.chains
  unfolding in_row
  rank_below c lt =
      let lc = in_range c lt in
      let n = length b.chains in
      let most : n ≤ chains_most = omega (arith, acts.count, acts.shape.few) in
      let h = ones_less chains_most (get_or sets c 0) (2 ^ n - 1) c (all.fit.words c) (omega (arith, pow_mono most, pow_pos n))
      (λ i l q. has_ones n i (reached_within ((all.exactly c i lc l).0 q))) lc (not_itself c lc) (has_ones n c lt) in
      omega (arith, ones-ones n)

  pub ranked : Ranked k (rank_of sets)
  ranked = record {
    falls = λ c i d lt at. rank_falls c d (rule_call acts c i d lt at);
    below = λ c lt. subst (λ n. rank_of sets c < n) acts.count (rank_below c (rw acts.count lt));
  }

-- the model's weight weighs by any ranks
pub weighing : {b : Book} {k : Contents} → Actions b k → LoopFree b → {rank : ℕ → ℕ} → Ranked k rank → Weighing k rank (weight (length b.chains) b)
weighing {b} acts free by = record {
  ranked = by;
  recursive = λ c lt. weight_recursive b free c ∙ sym (weigh_book acts (weight (length b.chains) b) c lt);
}

-- ONE TABLE ONLY
module _ (b : Book) (s t : List ℕ) (p : Reached b s) (q : Reached b t) where
  agree : (c d : ℕ) → c < chains_most → d < chains_most → in_row s c d ≡ in_row t c d
  agree c d lc ld = same (in_row s c d) (in_row t c d) (λ e. (q.exactly c d lc ld).1 ((p.exactly c d lc ld).0 e)) (λ e. not_true (in_row t c d) (λ f. false≢true (sym e ∙ (p.exactly c d lc ld).1 ((q.exactly c d lc ld).0 f))))

  pub one_table : s ≡ t
  unfolding in_row
  one_table = ext_get_or 0 s t (p.fit.size ∙ sym q.fit.size) (λ c l. let lc : c < chains_most = rw (← p.fit.size) l in same_bits chains_most (get_or s c 0) (get_or t c 0) (p.fit.words c) (q.fit.words c) (λ d ld. agree c d lc ld))
