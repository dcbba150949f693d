-- The loop over the chains: one law for each way through the code.
use Prim.Native.Nat.{ℕ, suc, ◌+◌, ◌-◌, ◌≤◌, ◌<◌, zero-le}
use mathlib.Core.Bool.{Bool, true, false, ◌&&◌}
use mathlib.Core.List.{List, [], ◌∷◌, ◌++◌, map, map-append, append_assoc, append-nil}
use mathlib.Core.Path.{◌≡◌, refl, sym, ap, ◌∙◌, subst}
use native.Mathlib.Omega.{arith}
use native.Mathlib.Nat.{sub-zero}
use lib.Dec.{leb}
use lib.ListN.{length, set, drop, replicate, length-append, length-take, length-drop, length-map, length-replicate}
use lib.Seq.{take_at, drop_at}
use borrow.Author.Tests.{le-leb}
use borrow.Rule.Slice.PartMut.{put_mid, post_of, mid_of}
use Rattle.std.proofs.lemmas.List.{drop-replicate}
use Rattle.model.specs.Answer as answer
use Rattle.model.specs.Answer.{Answer, fine, when}
use Rattle.model.specs.Limits.{chains_most, rules_most}
use Rattle.model.specs.Reader.{Stand, Read, got, refused, after, each}
use Rattle.model.specs.Number.{Numeral, numeral, illegible, onward, number, number_at}
use Rattle.model.specs.Tree.{Rule, all_rules}
use Rattle.model.specs.Book.{rule, rule_count, chain}
use Rattle.model.specs.Filling.{padded}
use Rattle.model.proofs.Tests.{tests, same}
use Rattle.model.proofs.Success as success
use Rattle.model.proofs.Filling.{padded_set}
use Rattle.model.proofs.BookKnown.{Fit, count_known, SomeRules, rules_known}
use Rattle.numbers.specs.Told.{numbered}
use Rattle.numbers.specs.Field.{bounded, field_at}
use Rattle.numbers.specs.declared.Number.{Number}
use Rattle.expressions.specs.Told.{noted, stand}
use Rattle.expressions.specs.declared.ExpressionRead.{ExpressionRead}
use Rattle.expressions.proofs.Ends.{noted_refusal}
use Rattle.book.specs.Contents.{starts, note_of, no_note, notes_of}
use Rattle.book.specs.Inner.{Finds, answered, all_chains, place_after}
use Rattle.book.specs.Held.{charting}
use Rattle.book.specs.declared.Contents.{Contents}
use Rattle.book.specs.declared.NotedRule.{NotedRule}
use Rattle.book.proofs.Afterwards.{after_got, after_refused, behind, behind_none, each_none, each_refused, each_more}

-- a count of rules is a field: the room that is left is its limit
abbrev counted : Stand → Answer Number → Read ℕ
counted st (fine n) = got n.value (stand n.next (st.rules + n.value) st.sources)
counted st (answer.refused n p) = refused n p

count_is : (s : List ℕ) (st : Stand) → st.rules ≤ rules_most → rule_count s st ≡ counted st (numbered st.at (field_at s st.at 0 (rules_most - st.rules)))
unfolding number field_at
count_is s st room = go (number_at s st.at)
  where
    judge : (b : Bool) (v next : ℕ) → when b (got v (stand next (st.rules + v) st.sources)) (refused 4 st.at)
        ≡ counted st (numbered st.at (when b (numeral v next) (illegible 4)))
    judge true v next = refl
    judge false v next = refl

    test : (v : ℕ) → leb (st.rules + v) rules_most ≡ leb 0 v && leb v (rules_most - st.rules)
    test v = rw (le-leb 0 v zero-le) (same (leb (st.rules + v) rules_most) (leb v (rules_most - st.rules)) (λ e. omega tests) (λ e. omega tests))

    go : (n : Numeral) → after (onward st n) (λ v st'. when (leb (st'.rules + v) rules_most) (got v (stand st'.at (st'.rules + v) st'.sources)) (refused 4 st.at))
        ≡ counted st (numbered st.at (bounded 0 (rules_most - st.rules) n))
    go (numeral v next) = rw (test v) (judge (leb 0 v && leb v (rules_most - st.rules)) v next)
    go (illegible n) = refl

-- one chain
module _ (chains : ℕ) (s : List ℕ) (read : ExpressionRead) (rules : ℕ) (room : rules ≤ rules_most) where
  abbrev here : Stand
  here = stand read.next rules read.sources

  abbrev pub IsCount : Answer Number → Type 0
  IsCount a = a ≡ numbered read.next (field_at s read.next 0 (rules_most - rules))

  chain_count : (n p : ℕ) → IsCount (answer.refused n p) → chain chains s here ≡ refused n p
  chain_count n p e = after_refused (rule_count s here) _ n p (count_is s here room ∙ ap (counted here) (sym e))

  module _ (n : Number) (e : IsCount (fine n)) where
    count_got : rule_count s here ≡ got n.value (stand n.next (rules + n.value) read.sources)
    count_got = count_is s here room ∙ ap (counted here) (sym e)

    count_fit : Fit s (stand n.next (rules + n.value) read.sources)
    count_fit = (subst (λ m. success.Got m (λ n st'. (st'.rules ≡ rules + n) × Fit s st')) count_got (count_known s here)).1

    abbrev pub rule_reads : Read (List Rule)
    rule_reads = each n.value rules (rule chains) s (stand n.next (rules + n.value) read.sources)

    chain_rules : chain chains s here ≡ rule_reads
    chain_rules = after_got (rule_count s here) _ n.value _ count_got

    record FoundRules (r : ExpressionRead) : Type 0 where
      pub rs : List Rule
      pub reads : rule_reads ≡ got rs (stand r.next (rules + n.value) r.sources)
      pub size : length rs ≡ n.value

    found_rules : (r : ExpressionRead) → fine r ≡ noted rule_reads → FoundRules r
    found_rules r = go rule_reads refl (rules_known s chains n.value rules (stand n.next (rules + n.value) read.sources) count_fit.inside)
      where
        go : (m : Read (List Rule)) → rule_reads ≡ m
            → success.Got m (λ rs st'. SomeRules s chains rules (stand n.next (rules + n.value) read.sources) rs st' × (length rs ≡ n.value))
            → fine r ≡ noted m → FoundRules r
        go (got rs st) q p t =
            let z : record { next = st.at; sources = st.sources } ≡ r = cc in
            let a : st.at ≡ r.next = ap (λ (r : ExpressionRead). r.next) z in let b : st.sources ≡ r.sources = ap (λ (r : ExpressionRead). r.sources) z in
            let c : st.rules ≡ rules + n.value = p.0.rules in
            let d : stand st.at st.rules st.sources ≡ stand r.next (rules + n.value) r.sources = cc in
            record { rs = rs; reads = q ∙ ap (got rs) d; size = p.1 }
        go (refused x y) q p t = let z : ◌≡◌ {A = ℕ} 0 1 = cc in absurd (omega arith)

-- the contents of one chain more
starts_more : (i : ℕ) (cs : List (List Rule)) (rs : List Rule) → starts i (cs ++ rs ∷ []) ≡ starts i cs ++ (i + length (all_rules cs) + length rs) ∷ []
unfolding starts
starts_more i [] rs = let e : i + 0 + length rs ≡ i + length rs = omega arith in rw e
starts_more i (c ∷ cs) rs =
    let e : i + length c + length (all_rules cs) + length rs ≡ i + length (c ++ all_rules cs) + length rs = omega (arith, length-append c (all_rules cs)) in
    ap (λ l. i ∷ l) (starts_more (i + length c) cs rs ∙ ap (λ n. starts (i + length c) cs ++ n ∷ []) e)

starts_length : (i : ℕ) (cs : List (List Rule)) → length (starts i cs) ≡ suc (length cs)
unfolding starts
starts_length i [] = refl
starts_length i (c ∷ cs) = ap suc (starts_length (i + length c) cs)

all_more : (cs : List (List Rule)) (rs : List Rule) → all_rules cs ++ rs ≡ all_rules (cs ++ rs ∷ [])
all_more [] rs = sym (append-nil rs)
all_more (c ∷ cs) rs = append_assoc c (all_rules cs) rs ∙ ap (λ l. c ++ l) (all_more cs rs)

firsts_more : (cs : List (List Rule)) (rs : List Rule) (c last : ℕ) → length cs ≡ c → c < chains_most → length (all_rules cs) + length rs ≡ last
    → set (padded (suc chains_most) (starts 0 cs)) (c + 1) last ≡ padded (suc chains_most) (starts 0 (cs ++ rs ∷ []))
firsts_more cs rs c last n h t =
    let i : length (starts 0 cs) ≡ c + 1 = omega (arith, starts_length 0 cs, n) in
    let v : 0 + length (all_rules cs) + length rs ≡ last = omega arith in
    ap (λ i. set (padded (suc chains_most) (starts 0 cs)) i last) (sym i) ∙ padded_set (suc chains_most) (starts 0 cs) last (omega arith)
    ∙ ap (padded (suc chains_most)) (ap (λ v. starts 0 cs ++ v ∷ []) (sym v) ∙ sym (starts_more 0 cs rs))

notes_more : (done rs : List Rule) (slots : List NotedRule) (a k : ℕ) → length done ≡ a → length rs ≡ k → slots ≡ map note_of rs
    → put_mid a k (notes_of done) slots ≡ notes_of (done ++ rs)
notes_more done rs slots a k n m e =
    let l : length (map note_of done) ≡ a = length-map done note_of ∙ n in
    let blanks : List NotedRule = replicate (rules_most - length done) no_note in
    let size : rules_most - length done - k ≡ rules_most - length (done ++ rs) = omega (arith, length-append done rs) in
    let left : post_of a k (notes_of done) ≡ replicate (rules_most - length (done ++ rs)) no_note =
    ap (drop k) (drop_at (map note_of done) blanks a l) ∙ drop-replicate k (rules_most - length done) no_note ∙ ap (λ n. replicate n no_note) size in
    rw (take_at (map note_of done) blanks a l, left, e) (sym (append_assoc (map note_of done) (map note_of rs) _)
    ∙ ap (λ l. l ++ replicate (rules_most - length (done ++ rs)) no_note) (sym (map-append note_of done rs)))

notes_length : (done : List Rule) → length done ≤ rules_most → length (notes_of done) ≡ rules_most
notes_length done h =
    let blanks : List NotedRule = replicate (rules_most - length done) no_note in
    omega (arith, length-append (map note_of done) blanks, length-map done note_of, length-replicate (rules_most - length done) no_note)

-- the loop: some chains were read, and with what is still to be read they are all; k is what the contents were before
module _ (s : List ℕ) (at : ℕ) (k : Contents) where
  abbrev pub chain_reads : Read (List (List Rule))
  chain_reads = all_chains k.chains s (stand at 0 0)

  pub record ChainsBehind (contents : Contents) (read : ExpressionRead) (c : ℕ) : Type 0 where
    pub cs : List (List Rule)
    pub count : length cs ≡ c
    pub total : length (all_rules cs) ≡ contents.rules
    pub room : contents.rules ≤ rules_most
    pub reads : chain_reads ≡ behind cs (each (k.chains - c) c (λ i. chain k.chains) s (stand read.next contents.rules read.sources))
    pub held : contents ≡ charting k cs contents.rules

  pub chains_begin : k ≡ charting k [] 0 → ChainsBehind k (record { next = at; sources = 0 }) 0
  chains_begin h =
      let z : k.rules ≡ 0 = ap (λ (k : Contents). k.rules) h in
      record {
        cs = [];
        count = refl;
        total = sym z;
        room = omega arith;
        reads = rw (z, sub-zero) (behind_none chain_reads);
        held = h ∙ ap (charting k []) (sym z);
      }

  -- the answer a is right, and so are the contents
  abbrev Answered : Answer ℕ → Contents → Type 0
  Answered a new = (a ≡ answered place_after chain_reads) × Finds chain_reads (λ cs st. new ≡ charting k cs st.rules)

  refused_so : (n p : ℕ) → chain_reads ≡ refused n p → (new : Contents) → Answered (answer.refused n p) new
  refused_so n p e new = (sym (ap (answered place_after) e), subst (λ m. Finds m (λ cs st. new ≡ charting k cs st.rules)) (sym e) tt)

  module _ (contents : Contents) (read : ExpressionRead) (c : ℕ) (b : ChainsBehind contents read c) where
    pub chains_end : k.chains ≤ c → Answered (fine read.next) contents
    chains_end le =
        let e = b.reads ∙ each_none (λ i. chain k.chains) s k.chains c c (stand read.next contents.rules read.sources) le b.cs in
        (sym (ap (answered place_after) e), subst (λ m. Finds m (λ cs st. contents ≡ charting k cs st.rules)) (sym e) b.held)

    module _ (lt : c < k.chains) where
      abbrev Counted : Answer Number → Type 0
      Counted = IsCount k.chains s read contents.rules b.room

      pub count_refused : (n p : ℕ) → Counted (answer.refused n p) → (new : Contents) → Answered (answer.refused n p) new
      count_refused n p e = refused_so n p
          (b.reads ∙ each_refused (λ i. chain k.chains) s k.chains c c (stand read.next contents.rules read.sources) lt n p
          (chain_count k.chains s read contents.rules b.room n p e) b.cs)

      module _ (n : Number) (e : Counted (fine n)) where
        pub more_room : contents.rules + n.value ≤ rules_most
        more_room = (count_fit k.chains s read contents.rules b.room n e).room

        -- the slots of this chain, and what is read into so many
        abbrev Part : ℕ → ℕ
        Part size = length (mid_of contents.rules size contents.noted)

        abbrev Rules : ℕ → ℕ → ℕ → Read (List Rule)
        Rules m first rules = each m first (rule k.chains) s (stand n.next rules read.sources)

        abbrev Here : ℕ → Read (List Rule)
        Here m = Rules m contents.rules (contents.rules + n.value)

        part_size : (size : ℕ) → size ≡ n.value → Part size ≡ n.value
        part_size size z =
            let l : length contents.noted ≡ rules_most = ap (λ (k : Contents). length k.noted) b.held ∙ notes_length (all_rules b.cs) (omega (arith, b.total, b.room)) in
            omega (arith, length-take size (drop contents.rules contents.noted), length-drop contents.rules contents.noted, more_room)

        pub rules_refused : (size : ℕ) → size ≡ n.value → (x p : ℕ) → ((first rules : ℕ) → answer.refused x p ≡ noted (Rules (Part size) first rules))
            → (new : Contents) → Answered (answer.refused x p) new
        rules_refused size z x p h = refused_so x p
            (b.reads ∙ each_refused (λ i. chain k.chains) s k.chains c c (stand read.next contents.rules read.sources) lt x p
            (chain_rules k.chains s read contents.rules b.room n e ∙ noted_refusal _ x p
            (sym (subst (λ m. answer.refused x p ≡ noted (Here m)) (part_size size z) (h contents.rules (contents.rules + n.value))))) b.cs)

        pub rules_got : k.chains ≤ chains_most → (last size : ℕ) → last ≡ contents.rules + n.value → size ≡ n.value
            → (r : ExpressionRead) → ((first rules : ℕ) → fine r ≡ noted (Rules (Part size) first rules))
            → (slots : List NotedRule) → ((first rules : ℕ) → Finds (Rules (Part size) first rules) (λ rs st. slots ≡ map note_of rs))
            → ChainsBehind (record {
              policy = contents.policy;
              chains = contents.chains;
              rules = last;
              first = set contents.first (c + 1) last;
              noted = put_mid contents.rules size contents.noted slots;
            }) r (c + 1)
        rules_got few last size t z r h slots held =
            let m = part_size size z in
            let f = found_rules k.chains s read contents.rules b.room n e r (subst (λ m. fine r ≡ noted (Here m)) m (h contents.rules (contents.rules + n.value))) in
            let g : slots ≡ map note_of f.rs = subst (λ m. Finds m (λ rs st. slots ≡ map note_of rs)) f.reads
            (subst (λ m. Finds (Here m) (λ rs st. slots ≡ map note_of rs)) m (held contents.rules (contents.rules + n.value))) in
            let policy : contents.policy ≡ k.policy = ap (λ (k : Contents). k.policy) b.held in
            let chains : contents.chains ≡ k.chains = ap (λ (k : Contents). k.chains) b.held in
            let firsts : set contents.first (c + 1) last ≡ padded (suc chains_most) (starts 0 (b.cs ++ f.rs ∷ [])) =
            ap (λ (k : Contents). set k.first (c + 1) last) b.held ∙ firsts_more b.cs f.rs c last b.count (omega arith) (omega (arith, b.total, f.size)) in
            let notes : put_mid contents.rules size contents.noted slots ≡ notes_of (all_rules (b.cs ++ f.rs ∷ [])) =
            ap (λ (k : Contents). put_mid contents.rules size k.noted slots) b.held
            ∙ notes_more (all_rules b.cs) f.rs slots contents.rules size b.total (omega (arith, f.size)) g ∙ ap notes_of (all_more b.cs f.rs) in
            record {
              cs = b.cs ++ f.rs ∷ [];
              count = omega (arith, length-append b.cs (f.rs ∷ []), b.count);
              total = omega (arith, ap length (all_more b.cs f.rs), length-append (all_rules b.cs) f.rs, b.total, f.size);
              room = omega (arith, more_room);
              reads = b.reads ∙ each_more (λ i. chain k.chains) s k.chains c c (stand read.next contents.rules read.sources) lt f.rs _
                  (chain_rules k.chains s read contents.rules b.room n e ∙ f.reads) b.cs ∙ rw t;
              held = λ i. record { policy = policy i; chains = chains i; rules = last; first = firsts i; noted = notes i };
            }
