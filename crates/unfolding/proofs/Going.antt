-- A chain's rules one after the other: to write the rest now is to write all.
use Prim.Native.Nat.{ℕ, suc, ◌+◌, ◌-◌, ◌≤◌, ◌<◌}
use native.Mathlib.Omega.{arith}
use mathlib.Core.Path.{◌≡◌, refl, ap, sym, ◌∙◌}
use mathlib.Core.List.{List, [], ◌++◌}
use lib.ListN.{length, take, length-append}
use lib.Seq.{take-take}
use Rattle.model.specs.Filling.{put}
use Rattle.model.proofs.Filling.{put_put, put_none}
use Rattle.book.specs.Contents.{action_at}
use Rattle.book.specs.declared.Contents.{Contents}
use Rattle.unfolding.specs.Emitted.{rule_words, after, own_at, rules_words}
use Rattle.unfolding.specs.Walking.{Ruled}

module _ (k : Contents) (run : List ℕ → ℕ → List ℕ) where
  -- what the rules from i up to the end put in, what rule i does, and the conditions after it
  abbrev pub Rest : ℕ → List ℕ → ℕ → List ℕ
  Rest end cs i = rules_words k run cs i (end - i)

  abbrev pub Puts : List ℕ → ℕ → List ℕ
  Puts cs i = rule_words run cs i (own_at k i) (action_at k i)

  abbrev pub Leaves : List ℕ → ℕ → List ℕ
  Leaves cs i = after cs (own_at k i) (action_at k i)

  rest_more : (end : ℕ) (cs : List ℕ) (i : ℕ) → i < end → Rest end cs i ≡ Puts cs i ++ Rest end (Leaves cs i) (i + 1)
  unfolding rules_words
  rest_more end cs i lt = let e : end - i ≡ suc (end - (i + 1)) = omega arith in rw e

  rest_none : (end : ℕ) (cs : List ℕ) (i : ℕ) → end ≤ i → Rest end cs i ≡ []
  unfolding rules_words
  rest_none end cs i h = let e : end - i ≡ 0 = omega arith in rw e

  pub record Going (i₀ end n at : ℕ) (ctx₀ w₀ : List ℕ) (i m to : ℕ) (ctx w : List ℕ) : Type 0 where
    pub from : i₀ ≤ i
    pub upto : i ≤ end
    pub written : put w to (Rest end (take m ctx) i) ≡ put w₀ at (Rest end (take n ctx₀) i₀)
    pub count : to + length (Rest end (take m ctx) i) ≡ at + length (Rest end (take n ctx₀) i₀)
    pub words : length w ≡ length w₀
    pub scratch : length ctx ≡ length ctx₀
    pub kept : take n ctx ≡ take n ctx₀
    pub low : n ≤ m
    pub high : m + i₀ ≤ n + i

  module _ (i₀ end n at : ℕ) (ctx₀ w₀ : List ℕ) where
    pub going_start : i₀ ≤ end → Going i₀ end n at ctx₀ w₀ i₀ n at ctx₀ w₀
    going_start le = record { from = omega arith; upto = le; written = refl; count = refl; words = refl; scratch = refl; kept = refl; low = omega arith; high = omega arith }

    module _ (i m to : ℕ) (ctx w : List ℕ) (g : Going i₀ end n at ctx₀ w₀ i m to ctx w) where
      module _ (lt : i < end) (room : at + length (Rest end (take n ctx₀) i₀) ≤ length w₀) where
        rest_length : length (Rest end (take m ctx) i) ≡ length (Puts (take m ctx) i) + length (Rest end (Leaves (take m ctx) i) (i + 1))
        rest_length = ap length (rest_more end (take m ctx) i lt) ∙ length-append (Puts (take m ctx) i) (Rest end (Leaves (take m ctx) i) (i + 1))

        pub going_room : to + length (Puts (take m ctx) i) ≤ length w
        going_room = omega (arith, rest_length, g.count, g.words)

        pub going_step : (m' to' : ℕ) (ctx' w' : List ℕ) → Ruled (Puts (take m ctx) i) (Leaves (take m ctx) i) ctx m w to m' to' ctx' w' → length ctx' ≡ length ctx → length w' ≡ length w → Going i₀ end n at ctx₀ w₀ (i + 1) m' to' ctx' w'
        going_step m' to' ctx' w' p lc lw =
            let le : to ≤ length w = omega (arith, going_room) in
            let le' : n ≤ m = g.low in
            record {
              from = omega (arith, g.from);
              upto = omega arith;
              written = rw (p.conditions, p.written, p.count, put_put w to (Puts (take m ctx) i) (Rest end (Leaves (take m ctx) i) (i + 1)) le, ← rest_more end (take m ctx) i lt) g.written;
              count = rw p.conditions (omega (arith, p.count, rest_length, g.count));
              words = lw ∙ g.words;
              scratch = lc ∙ g.scratch;
              kept = sym (take-take n m ctx' le') ∙ ap (take n) p.kept ∙ take-take n m ctx le' ∙ g.kept;
              low = omega (arith, g.low, p.more);
              high = omega (arith, g.high, p.one);
            }

      pub going_count : end ≤ i → to ≡ at + length (Rest end (take n ctx₀) i₀)
      going_count ge = omega (arith, g.count, ap length (rest_none end (take m ctx) i ge))

      pub going_written : end ≤ i → w ≡ put w₀ at (Rest end (take n ctx₀) i₀)
      going_written ge = sym (put_none w to) ∙ ap (put w to) (sym (rest_none end (take m ctx) i ge)) ∙ g.written
