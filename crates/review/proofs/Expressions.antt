-- The places of the rules' expressions rise with the rules' numbers, so a search by halves tells whether one of them is a place. Assumes nothing.
use Rattle.std.proofs.Common.{◌≡◌, ℕ, zero, suc, ◌≤◌, ◌<◌, List, [], ◌∷◌, length, get_or, take, map, ◌-◌, true, false, refl, sym, ◌∙◌, ap, arith, Result, Ok, Err, is_ok, length-append}
use Rattle.std.specs.List.Sorted.{IsSearchInRange, IsBinarySearchResult, IsNonDecreasingBy}
use Rattle.std.specs.Ordering.{nat_cmp, ordering_index}
use Rattle.std.proofs.lemmas.Bool.Decides.{nat_tests}
use Rattle.std.proofs.lemmas.Cmp.{ranked}
use Rattle.std.proofs.lemmas.List.{get_or-take, length-take-le}
use Rattle.std.proofs.lemmas.List.Sorted.{IsNonDecreasingBy-from_default}
use mathlib.Core.Logic.{⊎_elim}
use mathlib.Core.Option.{some}
use borrow.Author.Tests.{eq-eqb, ne_eqb}
use lib.Dec.{eqb}
use lib.ListN.{length-map, replicate}
use Rattle.model.specs.Limits.{rules_most}
use Rattle.model.specs.Answer.{when}
use Rattle.model.specs.Tree.{place_of, Rule, Book, rules_of}
use Rattle.model.specs.Slices.{match_in}
use Rattle.model.proofs.BookRead.{Places, readable_is}
use Rattle.model.proofs.Placed.{readable_read}
use Rattle.model.proofs.Tests.{cases}
use Rattle.model.proofs.BookKnown.{book_known}
use Rattle.book.specs.Contents.{note_of, no_note, contents_of, expression_at}
use Rattle.book.specs.Own.{no_rule}
use Rattle.book.specs.declared.Contents.{Contents}
use Rattle.book.specs.declared.NotedRule.{NotedRule}
use Rattle.book.proofs.Charts.{note_is}
use Rattle.suspects.proofs.Chains.{lt_or_le}
use Rattle.review.specs.Known.{found, Known, HasBook}

-- where the expression of rule i starts
abbrev place : List Rule → ℕ → ℕ
place rs i = place_of (get_or rs i no_rule).match

places_least : (low : ℕ) (rs : List Rule) (high : ℕ) → Places low rs high → (i : ℕ) → i < length rs → low ≤ place rs i
places_least low [] high p i h = absurd (omega arith)
places_least low (r ∷ rs) high p zero h = p.0
places_least low (r ∷ rs) high p (suc i) h = omega (arith, p.0, places_least (suc (place_of r.match)) rs high p.1 i (omega arith))

places_rise : (low : ℕ) (rs : List Rule) (high : ℕ) → Places low rs high → (i j : ℕ) → i < j → j < length rs → place rs i < place rs j
places_rise low [] high p i j h k = absurd (omega arith)
places_rise low (r ∷ rs) high p i zero h k = absurd (omega arith)
places_rise low (r ∷ rs) high p zero (suc j) h k = places_least (suc (place_of r.match)) rs high p.1 j (omega arith)
places_rise low (r ∷ rs) high p (suc i) (suc j) h k = places_rise (suc (place_of r.match)) rs high p.1 i j (omega arith) (omega arith)

match_none : (at : ℕ) (rs : List Rule) → ((i : ℕ) → i < length rs → place rs i ≡ at → ⊥) → false ≡ found (match_in at rs)
unfolding match_in
match_none at [] h = refl
match_none at (r ∷ rs) h = rw (ne_eqb (place_of r.match) at (h 0 (omega arith))) (match_none at rs (λ i k. h (suc i) (omega arith)))

match_some : (at : ℕ) (rs : List Rule) (i : ℕ) → i < length rs → place rs i ≡ at → true ≡ found (match_in at rs)
unfolding match_in
match_some at [] i h e = absurd (omega arith)
match_some at (r ∷ rs) zero h e = rw (eq-eqb (place_of r.match) at e)
match_some at (r ∷ rs) (suc i) h e =
    cases (λ t. true ≡ found (when t (some r.match) (match_in at rs))) (eqb (place_of r.match) at) (λ q. refl) (λ q. match_some at rs i (omega arith) e)

-- what the contents of a book that was read say of its expressions
record Column (k : Contents) (b : Book) : Type 0 where
  counted : length (rules_of b) ≡ k.rules
  few : k.rules ≤ rules_most
  wide : k.rules ≤ length k.noted
  are : (i : ℕ) → expression_at k i ≡ place (rules_of b) i
  rises : (i j : ℕ) → i < j → j < k.rules → expression_at k i < expression_at k j

column : (k : Contents) (b : Book) → Known k b → Column k b
unfolding contents_of
column k b h =
    let r = readable_read h.bytes b h.read in
    let known = book_known h.bytes b r.0 r.1 in
    let places = (readable_is h.bytes b h.read).sound.places in
    let total : k.rules ≡ b.total = ap (λ (k : Contents). k.rules) h.contents in
    let counted : length (rules_of b) ≡ k.rules = sym known.total ∙ sym total in
    let noted = ap (λ (k : Contents). length k.noted) h.contents in
    let long = length-append (map note_of (rules_of b)) (replicate (rules_most - length (rules_of b)) no_note) in
    let are : (i : ℕ) → expression_at k i ≡ place (rules_of b) i = λ i. ap (λ (k : Contents). expression_at k i) h.contents ∙ ap (λ (r : NotedRule). r.expression) (note_is b i) in
    record {
      counted = counted;
      few = omega (arith, known.room, total);
      wide = omega (arith, noted, long, length-map (rules_of b) note_of, counted);
      are = are;
      rises = λ i j p q. rw (are i, are j) (places_rise places.0 (rules_of b) places.1 places.2 i j p (omega arith));
    }

pub few_rules : (k : Contents) → HasBook k → k.rules ≤ rules_most
few_rules k h = (column k h.book h.known).few

module _ (k : Contents) (at : ℕ) (b : Book) (h : Known k b) where
  abbrev notes : List NotedRule
  notes = take k.rules k.noted

  counted : length notes ≡ k.rules
  counted = length-take-le k.rules k.noted (column k b h).wide

  -- the place that a note among the first says
  note_place : (i : ℕ) → i < k.rules → (get_or notes i no_note).expression ≡ place (rules_of b) i
  note_place i lt = ap (λ (r : NotedRule). r.expression) (get_or-take k.rules k.noted i no_note lt) ∙ (column k b h).are i

  comparisons_rise : IsNonDecreasingBy (λ (r : NotedRule). ordering_index (nat_cmp r.expression at)) notes
  comparisons_rise = IsNonDecreasingBy-from_default (λ (r : NotedRule). ordering_index (nat_cmp r.expression at)) notes no_note (λ i j le lt.
      let c = column k b h in
      let rise : (get_or notes i no_note).expression ≤ (get_or notes j no_note).expression = ⊎_elim
      (λ p. omega (arith, note_place i (omega (arith, counted)), note_place j (omega (arith, counted)), c.are i, c.are j, c.rises i j p (omega (arith, counted))))
      (λ (p : j ≤ i). let e : i ≡ j = omega arith in rw e (omega arith)) (lt_or_le i j) in
      grind (arith, nat_tests))

  -- a search by halves finds the place where some rule's expression starts there, and only there
  pub searched : (r : Result ℕ ℕ) → IsSearchInRange r (length notes) → IsBinarySearchResult (λ (r : NotedRule). nat_cmp r.expression at) notes r → is_ok r ≡ found (match_in at (rules_of b))
  searched (Ok i) lt equal =
      let c = column k b h in
      match_some at (rules_of b) i (omega (arith, counted, c.counted)) (sym (note_place i (omega (arith, counted))) ∙ ranked _ at _ (sym (equal no_note)))
  searched (Err i) le parted = let c = column k b h in match_none at (rules_of b) (λ j lt e.
      let here = note_place j (omega (arith, c.counted)) in
      ⊎_elim
      (λ p. let less = ranked _ at _ (sym ((parted comparisons_rise).0 j no_note (omega arith) p)) in omega arith)
      (λ p. let more = ranked _ at _ (sym ((parted comparisons_rise).1 j no_note p (omega (arith, counted, c.counted)))) in omega arith)
      (lt_or_le j i))
