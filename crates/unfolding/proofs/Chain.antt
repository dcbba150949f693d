-- One chain: what its loop relies on, and what each of its rules does.
use Prim.Native.Nat.{ℕ, zero, suc, ◌+◌, ◌-◌, ◌≤◌, ◌<◌}
use native.Mathlib.Omega.{arith}
use native.Mathlib.Numerals.{add-one}
use mathlib.Core.Path.{◌≡◌, refl, ap, sym, ◌∙◌}
use mathlib.Core.List.{List, [], ◌∷◌, ◌++◌}
use lib.ListN.{length, get_or, take, set, length-set}
use lib.Seq.{length-take-le, take-take, take-set-le, take-suc-set, get_or-set_same}
use Rattle.model.specs.Tree.{Action}
use Rattle.model.specs.Tree.Action.{return, call}
use Rattle.model.specs.Filling.{put}
use Rattle.model.proofs.Filling.{put_none}
use Rattle.book.specs.Contents.{action_at, first_of}
use Rattle.book.specs.declared.Contents.{Contents}
use Rattle.unfolding.specs.Emitted.{entry, rule_words, after, own_at, chain_words}
use Rattle.unfolding.specs.Walking.{Writable, RuleOf, CallOf, Ruled, ChainPre, ChainPost}
use Rattle.unfolding.proofs.Going.{Rest, Puts, Going, going_room, going_step, going_count, going_written}

-- where the ways of a match meet
pub met : (P : ℕ → ℕ → List ℕ → List ℕ → Type 0) {m m' to to' : ℕ} {ctx ctx' w w' : List ℕ} → P m' to' ctx' w' → m ≡ m' → to ≡ to' → ctx ≡ ctx' → w ≡ w' → P m to ctx w
met P h em et ec ew = rw (em, et, ec, ew) h

-- one more condition
take_set : (ctx : List ℕ) (m x : ℕ) → m < length ctx → take (m + 1) (set ctx m x) ≡ take m ctx ++ (x ∷ [])
take_set ctx m x h = rw add-one (take-suc-set ctx m x h)

module _ (k : Contents) (c d : ℕ) (ctx₀ : List ℕ) (n : ℕ) (w₀ : List ℕ) (at : ℕ) (p : ChainPre k c d ctx₀ n w₀ at) where
  abbrev run : List ℕ → ℕ → List ℕ
  run = chain_words k (d - 1)

  abbrev start : ℕ
  start = first_of k c

  abbrev end : ℕ
  end = first_of k (c + 1)

  chain_more : (e : ℕ) → 0 < e → (cs : List ℕ) → chain_words k e cs c ≡ Rest k (chain_words k (e - 1)) end cs start
  unfolding chain_words
  chain_more zero h cs = absurd (omega arith)
  chain_more (suc e) h cs = let q : suc e - 1 ≡ e = omega arith in rw q

  whole : chain_words k d (take n ctx₀) c ≡ Rest k run end (take n ctx₀) start
  whole = chain_more d (omega (arith, p.deep)) (take n ctx₀)

  room : at + length (Rest k run end (take n ctx₀) start) ≤ length w₀
  room = omega (arith, p.room, ap length whole)

  abbrev pub Loop : ℕ → ℕ → ℕ → List ℕ → List ℕ → Type 0
  Loop = Going k run start end n at ctx₀ w₀

  module _ (i m to : ℕ) (ctx w : List ℕ) (g : Loop i m to ctx w) where
    pub loop_end : end ≤ i → ChainPost k c d ctx₀ n w₀ at to ctx w
    loop_end ge = record {
      count = going_count k run start end n at ctx₀ w₀ i m to ctx w g ge ∙ ap (λ l. at + length l) (sym whole);
      written = going_written k run start end n at ctx₀ w₀ i m to ctx w g ge ∙ ap (put w₀ at) (sym whole);
      kept = g.kept;
    }

    module _ (lt : i < end) where
      rule : RuleOf k c i
      rule = record { chain = p.there; from = g.from; upto = lt }

      slot : m < length ctx
      slot = omega (arith, g.high, g.from, g.scratch, p.scratch)

      -- the scratch, with the rule's own match
      abbrev own : List ℕ
      own = set ctx m (own_at k i)

      own_length : length own ≡ length ctx
      own_length = length-set ctx m (own_at k i)

      kept_own : take m own ≡ take m ctx
      kept_own = take-set-le m ctx m (own_at k i) (omega arith)

      fits : to + length (Puts k run (take m ctx) i) ≤ length w
      fits = going_room k run start end n at ctx₀ w₀ i m to ctx w g lt room

      -- the rule's conditions, its own match last
      under : take (m + 1) own ≡ take m ctx ++ (own_at k i ∷ [])
      under = take_set ctx m (own_at k i) slot

      -- what a rule of an action does
      abbrev Does : Action → ℕ → ℕ → List ℕ → List ℕ → Type 0
      Does x m' to' ctx' w' = Ruled (rule_words run (take m ctx) i (own_at k i) x) (after (take m ctx) (own_at k i) x) ctx m w to m' to' ctx' w'

      module _ (x : Action) (acts : action_at k i ≡ x) where
        fits_as : to + length (rule_words run (take m ctx) i (own_at k i) x) ≤ length w
        fits_as = rw acts at fits

        went : {m' to' : ℕ} {ctx' w' : List ℕ} → Does x m' to' ctx' w' → length ctx' ≡ length ctx → length w' ≡ length w → Loop (i + 1) m' to' ctx' w'
        went {m'} {to'} {ctx'} {w'} r lc lw = going_step k run start end n at ctx₀ w₀ i m to ctx w g lt room m' to' ctx' w' (rw acts r) lc lw

        -- a list rule of action a
        module _ (a : ℕ) (puts : rule_words run (take m ctx) i (own_at k i) x ≡ entry a i (take m ctx ++ (own_at k i ∷ []))) (same : after (take m ctx) (own_at k i) x ≡ take m ctx) where
          pub writable : Writable (take (m + 1) own) w to
          writable =
              let l : length (take (m + 1) own) ≡ m + 1 = length-take-le (m + 1) own (omega (arith, slot, own_length)) in
              record { few = omega (arith, slot, g.scratch, p.few); room = omega (arith, fits_as, ap length puts, ap length under) }

          pub wrote : (to' : ℕ) (w' : List ℕ) → to' ≡ to + (length (take (m + 1) own) + 3) → w' ≡ put w to (entry a i (take (m + 1) own)) → length w' ≡ length w → Loop (i + 1) m to' own w'
          wrote to' w' et ew lw =
              let e : entry a i (take (m + 1) own) ≡ rule_words run (take m ctx) i (own_at k i) x = ap (entry a i) under ∙ sym puts in
              went (record {
                count = omega (arith, et, ap length e);
                written = ew ∙ ap (put w to) e;
                conditions = kept_own ∙ sym same;
                kept = kept_own;
                more = omega arith;
                one = omega arith;
              }) own_length lw

        pub passed : rule_words run (take m ctx) i (own_at k i) x ≡ [] → after (take m ctx) (own_at k i) x ≡ take m ctx → Loop (i + 1) m to own w
        passed none same =
            went (record {
              count = omega (arith, ap length none);
              written = sym (put_none w to) ∙ ap (put w to) (sym none);
              conditions = kept_own ∙ sym same;
              kept = kept_own;
              more = omega arith;
              one = omega arith;
            }) own_length refl

      -- a return leaves its match negated
      pub returned : action_at k i ≡ return → Loop (i + 1) (m + 1) to (set own m (get_or own m 0 + 1)) w
      returned acts =
          let is : get_or own m 0 ≡ own_at k i = get_or-set_same ctx m (own_at k i) 0 slot in
          let lm : m < length own = omega (arith, slot, own_length) in
          went return acts (record {
            count = omega arith;
            written = sym (put_none w to);
            conditions = take_set own m (get_or own m 0 + 1) lm ∙ rw (kept_own, is);
            kept = take-set-le m own m (get_or own m 0 + 1) (omega arith) ∙ kept_own;
            more = omega arith;
            one = omega arith;
          }) (length-set own m (get_or own m 0 + 1) ∙ own_length) refl

      module _ (e : ℕ) (acts : action_at k i ≡ call e) where
        calls : CallOf k c i e
        calls = record { rule = rule; calls = acts }

        call_words : run (take (m + 1) own) e ≡ rule_words run (take m ctx) i (own_at k i) (call e)
        call_words = ap (λ cs. run cs e) under

        pub call_pre : ChainPre k e (d - 1) own (m + 1) w to
        call_pre = record {
          order = p.order;
          there = p.order.shape.known i e (omega (arith, p.order.shape.inside c p.there)) acts;
          deep = omega (arith, p.deep, p.order.falls c i e calls);
          scratch = omega (arith, own_length, g.high, g.from, g.scratch, p.scratch, p.order.holds c i e calls);
          few = omega (arith, own_length, g.scratch, p.few);
          room = omega (arith, fits_as (call e) acts, ap length call_words);
        }

        pub called : {to' : ℕ} {ctx' w' : List ℕ} → ChainPost k e (d - 1) own (m + 1) w to to' ctx' w' → length ctx' ≡ length own → length w' ≡ length w → Loop (i + 1) m to' ctx' w'
        called {to'} {ctx'} {w'} q lc lw =
            let le : m ≤ m + 1 = omega arith in
            let kept : take m ctx' ≡ take m ctx = sym (take-take m (m + 1) ctx' le) ∙ ap (take m) q.kept ∙ take-take m (m + 1) own le ∙ kept_own in
            went (call e) acts (record {
              count = q.count ∙ ap (λ l. to + length l) call_words;
              written = q.written ∙ ap (put w to) call_words;
              conditions = kept;
              kept = kept;
              more = omega arith;
              one = omega arith;
            }) (lc ∙ own_length) lw
