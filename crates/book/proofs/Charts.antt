-- The contents of a book that was read are its chart: its chains can be walked by them.
use Prim.Native.Nat.{ℕ, zero, suc, ◌+◌, ◌≤◌, ◌<◌}
use mathlib.Core.List.{List, [], ◌∷◌, ◌++◌, map}
use mathlib.Core.Path.{◌≡◌, refl, sym, ap, ◌∙◌, subst}
use native.Mathlib.Omega.{arith}
use native.Mathlib.Nat.{add-zero, zero-add}
use native.Mathlib.Numerals.{add-one}
use lib.ListN.{length, get_or, replicate, length-append, get_or-map}
use lib.Seq.{get_or-append-add}
use Rattle.model.specs.Limits.{chains_most}
use Rattle.model.specs.Reader.{Stand, got}
use Rattle.model.specs.Tree.{Rule, Book, Action, all_rules, rules_of}
use Rattle.model.specs.Tree.Action.{accept, drop, reject, log, empty, return, call}
use Rattle.model.specs.Book.{book_of}
use Rattle.model.specs.Calls.{chain_of}
use Rattle.model.proofs.BookRead.{ActionFine}
use Rattle.model.proofs.EveryRule.{every_at}
use Rattle.model.proofs.Filling.{padded_at}
use Rattle.model.proofs.BookKnown.{KnownRule, KnownBook, Numbered, numbered_last, book_known}
use Rattle.book.specs.declared.NotedRule.{NotedRule}
use Rattle.book.specs.Contents.{said, held, verdict_number, verdict_of, starts, note_of, no_note, notes_of, contents_of}
use Rattle.book.specs.Contents.{note_at, action_at, expression_at, first_of, Noted, NotedAll, Charted}
use Rattle.book.specs.Own.{no_rule, rule_at, Owned}

-- what is noted of rule i: past the last rule, what stands in a slot that is not used
blanks_at : (n i : ℕ) → get_or (replicate n no_note) i no_note ≡ no_note
blanks_at zero i = refl
blanks_at (suc n) zero = refl
blanks_at (suc n) (suc i) = blanks_at n i

then_blanks : (ns : List NotedRule) (n i : ℕ) → get_or (ns ++ replicate n no_note) i no_note ≡ get_or ns i no_note
then_blanks [] n i = blanks_at n i
then_blanks (r ∷ ns) n zero = refl
then_blanks (r ∷ ns) n (suc i) = then_blanks ns n i

pub notes_at : (rs : List Rule) (i : ℕ) → get_or (notes_of rs) i no_note ≡ note_of (get_or rs i no_rule)
notes_at rs i = then_blanks (map note_of rs) _ i ∙ get_or-map note_of rs i no_rule

pub note_is : (b : Book) (i : ℕ) → note_at (contents_of b) i ≡ note_of (rule_at b i)
unfolding contents_of
note_is b i = notes_at (rules_of b) i

-- the first rules of the chains
starts_first : (i : ℕ) (cs : List (List Rule)) → get_or (starts i cs) 0 0 ≡ i
unfolding starts
starts_first i [] = refl
starts_first i (c ∷ cs) = refl

starts_step : (i : ℕ) (cs : List (List Rule)) (c : ℕ) → c < length cs → get_or (starts i cs) (suc c) 0 ≡ get_or (starts i cs) c 0 + length (get_or cs c [])
unfolding starts
starts_step i [] c h = absurd (omega arith)
starts_step i (k ∷ cs) zero h = starts_first (i + length k) cs
starts_step i (k ∷ cs) (suc c) h = starts_step (i + length k) cs c (omega arith)

starts_most : (i : ℕ) (cs : List (List Rule)) (c : ℕ) → c ≤ length cs → get_or (starts i cs) c 0 ≤ i + length (all_rules cs)
unfolding starts
starts_most i [] zero h = omega arith
starts_most i [] (suc c) h = absurd (omega arith)
starts_most i (k ∷ cs) zero h = omega arith
starts_most i (k ∷ cs) (suc c) h = omega (arith, starts_most (i + length k) cs c (omega arith), length-append k (all_rules cs))

pub said_held : (a : Action) → said (held a) ≡ a
said_held accept = refl
said_held drop = refl
said_held reject = refl
said_held log = refl
said_held empty = refl
said_held return = refl
said_held (call c) = refl

-- a rule's action as the contents have it
action_is : (b : Book) (i : ℕ) → action_at (contents_of b) i ≡ (rule_at b i).action
action_is b i = ap (λ (r : NotedRule). said r.action) (note_is b i) ∙ said_held (rule_at b i).action

call_known : (n d : ℕ) (a : Action) → ActionFine n a → a ≡ call d → d < n
call_known n d a h e = (subst (ActionFine n) e h).1

numbered_at : (i : ℕ) (rs : List Rule) (j : ℕ) → j < length rs → Numbered i rs → (get_or rs j no_rule).number ≡ i + j
numbered_at i [] j h n = absurd (omega arith)
numbered_at i (r ∷ rs) zero h n = omega (arith, n.0)
numbered_at i (r ∷ rs) (suc j) h n = omega (arith, numbered_at (suc i) rs j (omega arith) n.1)

-- the rules of a book, as its contents note them
module _ (b : Book) where
  noted_at : (i : ℕ) (r : Rule) → rule_at b i ≡ r → r.number ≡ i → Noted (contents_of b) i r
  noted_at i r e n = record {
    number = n;
    act = ap (λ (r : Rule). r.action) (sym e) ∙ sym (action_is b i);
    match = ap (λ (r : Rule). (note_of r).expression) (sym e) ∙ sym (ap (λ (r : NotedRule). r.expression) (note_is b i));
  }

  -- rs and then others stand in the book from number i on
  Sits : ℕ → List Rule → Type 0
  Sits i rs = (j : ℕ) → rule_at b (i + j) ≡ get_or rs j no_rule

  noted_all : (i : ℕ) (rs others : List Rule) → Sits i (rs ++ others) → Numbered i (rs ++ others) → NotedAll (contents_of b) i rs
  unfolding Sits
  noted_all i [] others h n = tt
  noted_all i (r ∷ rs) others h n = (
    noted_at i r (ap (rule_at b) (sym (add-zero i)) ∙ h 0) n.0,
    noted_all (suc i) rs others (λ j. let e : suc i + j ≡ i + suc j = omega arith in ap (rule_at b) e ∙ h (suc j)) n.1,
  )

  noted_chain : (i : ℕ) (cs : List (List Rule)) (c : ℕ) → c < length cs → Sits i (all_rules cs) → Numbered i (all_rules cs)
      → NotedAll (contents_of b) (get_or (starts i cs) c 0) (get_or cs c [])
  unfolding starts Sits
  noted_chain i [] c h k n = absurd (omega arith)
  noted_chain i (rs ∷ cs) zero h k n = noted_all i rs (all_rules cs) k n
  noted_chain i (rs ∷ cs) (suc c) h k n = noted_chain (i + length rs) cs c (omega arith)
      (λ j. let e : i + length rs + j ≡ i + (length rs + j) = omega arith in ap (rule_at b) e ∙ k (length rs + j) ∙ get_or-append-add rs (all_rules cs) j no_rule)
      (numbered_last i rs (all_rules cs) n)

  first_at : (c : ℕ) → first_of (contents_of b) c ≡ get_or (starts 0 b.chains) c 0
  unfolding contents_of
  first_at c = padded_at (suc chains_most) (starts 0 b.chains) c

  first_step : (c : ℕ) → c < length b.chains → first_of (contents_of b) (c + 1) ≡ first_of (contents_of b) c + length (chain_of b c)
  first_step c h = first_at (c + 1) ∙ ap (λ n. get_or (starts 0 b.chains) n 0) (add-one c) ∙ starts_step 0 b.chains c h
      ∙ ap (λ n. n + length (chain_of b c)) (sym (first_at c))

module _ (s : List ℕ) (b : Book) (known : KnownBook s b) where
  rule_known : (i : ℕ) → i < b.total → KnownRule s (length b.chains) (rule_at b i)
  rule_known i h = every_at (KnownRule s (length b.chains)) (rules_of b) i no_rule (omega (arith, known.total)) known.rules

  charted : Charted b (contents_of b)
  unfolding contents_of Sits
  charted = record {
    shape = record {
      some = known.some;
      few = known.few;
      room = known.room;
      rising = λ c h. omega (arith, first_step b c h);
      inside = λ c h. omega (arith, first_at b (c + 1), starts_most 0 b.chains (c + 1) (omega arith), known.total);
      known = λ i d h e. call_known (length b.chains) d (rule_at b i).action (rule_known i h).action (sym (action_is b i) ∙ e);
    };
    count = refl;
    total = refl;
    sizes = λ c h. omega (arith, first_step b c h);
    noted = λ c h. subst (λ i. NotedAll (contents_of b) i (chain_of b c)) (sym (first_at b c))
        (noted_chain b 0 b.chains c h (λ j. ap (rule_at b) (zero-add j)) known.numbered);
  }

  owned : (i : ℕ) → i < (contents_of b).rules → Owned s b i (note_at (contents_of b) i).place (expression_at (contents_of b) i) (note_at (contents_of b) i).end
  unfolding contents_of
  owned i h =
      let k = rule_known i h in
      let e = note_is b i in
      subst (λ (r : NotedRule). Owned s b i r.place r.expression r.end) (sym e) (record {
        number = numbered_at 0 (rules_of b) i (omega (arith, known.total)) known.numbered ∙ zero-add i;
        starts = refl;
        match = refl;
        ends = refl;
        before = k.before;
        past = k.past;
        inside = k.inside;
        stands = k.stands;
      })

verdict_back : (n : ℕ) → n ≤ 1 → n ≡ verdict_number (verdict_of n)
verdict_back zero h = refl
verdict_back (suc n) h = omega arith

-- THE CONTENTS OF A BOOK THAT WAS READ CHART IT
pub contents_charted : (s : List ℕ) (b : Book) (st : Stand) → book_of s ≡ got b st → Charted b (contents_of b)
contents_charted s b st e = charted s b (book_known s b st e)

-- THEY SAY WHERE EACH RULE STANDS: its own bytes run from its place to its end, its expression last
pub contents_owned : (s : List ℕ) (b : Book) (st : Stand) → book_of s ≡ got b st
    → (i : ℕ) → i < (contents_of b).rules → Owned s b i (note_at (contents_of b) i).place (expression_at (contents_of b) i) (note_at (contents_of b) i).end
contents_owned s b st e = owned s b (book_known s b st e)

-- AND ITS POLICY
pub contents_policy : (s : List ℕ) (b : Book) (st : Stand) → book_of s ≡ got b st → b.policy ≡ verdict_number (contents_of b).policy
unfolding contents_of
contents_policy s b st e = verdict_back b.policy (book_known s b st e).policy
