-- The whole list: the entry's chain, and the policy behind it.
use Prim.Native.Nat.{ℕ, ◌+◌, ◌≤◌}
use native.Mathlib.Omega.{arith}
use mathlib.Core.Path.{◌≡◌, ap, sym, ◌∙◌}
use mathlib.Core.List.{List, [], ◌++◌}
use lib.ListN.{length, drop, length-append}
use Rattle.model.specs.Limits.{rules_most}
use Rattle.model.specs.Tree.{Book}
use Rattle.model.specs.Unfolding.{list_of, words_of}
use Rattle.model.specs.Filling.{put}
use Rattle.model.proofs.Filling.{put_put, put_front}
use Rattle.book.specs.declared.Contents.{Contents}
use Rattle.unfolding.specs.Emitted.{entry, chain_words}
use Rattle.unfolding.specs.Walking.{Writable, ChainPre, ChainPost}
use Rattle.unfolding.specs.Unfolded.{Holds, Unfoldable, Unfolded}
use Rattle.unfolding.proofs.ListWords.{list_words}
use Rattle.unfolding.proofs.LoopFreeOrder.{from_entry}

module _ (k : Contents) (policy : ℕ) (w : List ℕ) (u : Unfoldable k policy (length w)) where
  -- the words before the policy's
  abbrev front : List ℕ
  front = chain_words k k.chains [] 0

  all_words : (b : Book) → Holds b k policy → front ++ entry policy k.rules [] ≡ words_of (list_of b)
  all_words b h = list_words b k h.charted policy h.ends

  all_length : (b : Book) → Holds b k policy → length front + 3 ≡ length (words_of (list_of b))
  all_length b h = sym (length-append front (entry policy k.rules [])) ∙ ap length (all_words b h)

  pub few_rules : k.rules ≤ rules_most
  few_rules = u.holds.charted.shape.room

  pub entry_pre : (ctx : List ℕ) → length ctx ≡ rules_most → ChainPre k 0 k.chains ctx 0 w 0
  entry_pre ctx e =
      let f = from_entry u.book k u.holds.charted u.free u.near in
      record {
        order = f.order;
        there = f.there;
        deep = f.deep;
        scratch = omega (arith, e, few_rules, f.holds);
        few = omega (arith, e);
        room = omega (arith, u.room, all_length u.book u.holds);
      }

  module _ (ctx : List ℕ) (to : ℕ) (ctx' w' : List ℕ) (q : ChainPost k 0 k.chains ctx 0 w 0 to ctx' w') where
    pub policy_pre : length w' ≡ length w → Writable [] w' to
    policy_pre e = record { few = omega arith; room = omega (arith, e, q.count, u.room, all_length u.book u.holds) }

    pub unfolded : (r : ℕ) (v : List ℕ) → r ≡ to + (0 + 3) → v ≡ put w' to (entry policy k.rules []) → Unfolded k policy w r v
    unfolded r v er ev b h = record {
      counted = omega (arith, er, q.count, all_length b h);
      words = ev ∙ rw (q.written, q.count) (put_put w 0 front (entry policy k.rules []) (omega arith)) ∙ put_front w (front ++ entry policy k.rules []) ∙ ap (λ l. l ++ drop (length l) w) (all_words b h);
    }
