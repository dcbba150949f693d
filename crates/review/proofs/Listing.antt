-- The review of a list, rule by rule: the review of the rest, with the suspects that are left, is the review of all. Assumes nothing.
use Rattle.std.proofs.Common.{◌≡◌, ℕ, ◌+◌, ◌≤◌, ◌<◌, List, [], ◌∷◌, ◌++◌, length, get_or, drop, refl, sym, ◌∙◌, ap, ap₂, subst, arith, append_assoc, length-append, length-drop, Option, Some, None, Result, Ok, Err}
use lib.Dec.{eqb}
use lib.Seq.{drop-drop, get_or-drop, drop-append_seam}
use Rattle.model.specs.Limits.{greatest}
use Rattle.model.specs.Standing.{Placed, BookStands}
use Rattle.model.specs.Calls.{readable}
use Rattle.model.specs.Unfolding.{ListRule, Conditions, Listed, condition_words, words_of}
use Rattle.model.specs.Spans.{Spans}
use Rattle.model.specs.Review as model
use Rattle.model.specs.Review.{may_pass, left_after, left_behind, accepting, review}
use Rattle.model.specs.Entries.{list_in, suspects_in}
use Rattle.model.proofs.EveryRule.{every_last}
use Rattle.model.proofs.Placed.{readable_placed, list_placed}
use Rattle.model.proofs.ReadBack.{words_append, length_words, length_one, length_both}
use Rattle.model.proofs.Sliced.{left_append}
use Rattle.model.proofs.Success.{fine_is}
use Rattle.model.proofs.SuspectsFit.{left_canonical, suspects_fit}
use Rattle.model.proofs.Tests.{when_cases}
use Rattle.book.specs.declared.RuleNumber.{RuleNumber}
use Rattle.matching.proofs.Words.{written_of}
use Rattle.suspects.specs.declared.Full.{Full}
use Rattle.suspects.specs.declared.Suspects.{Suspects}
use Rattle.suspects.specs.Slots.{writes}
use Rattle.sweep.specs.Sweep.{Kept}
use Rattle.sweep.proofs.Answers.{nothing_passes, one_passes}
use Rattle.review.specs.Taken.{RuleAt, TakenAs, TakesRule}
use Rattle.review.specs.Reviews.{Reviewable}

-- a rule whose words stand at a place
words_stand : (s words : List ℕ) (at : ℕ) (r : ListRule) (tail : List ℕ) → drop at words ≡ r.action ∷ r.number ∷ length r.conditions ∷ (condition_words r.conditions ++ tail)
    → Conditions (Placed s) r.conditions → RuleAt s words at r
words_stand s words at r tail e h =
    let z : at + 0 ≡ at = omega arith in
    let n : length r.conditions ≡ get_or words (at + 2) 0 = sym (ap (λ d. get_or d 2 0) e) ∙ get_or-drop at words 2 0 in
    record {
      action = rw z at (sym (ap (λ d. get_or d 0 0) e) ∙ get_or-drop at words 0 0);
      number = sym (ap (λ d. get_or d 1 0) e) ∙ get_or-drop at words 1 0;
      counted = n;
      room = omega (arith, ap length e, length-drop at words, length-append (condition_words r.conditions) tail, length_words r.conditions, n);
      written = written_of s words (at + 3) r.conditions tail (sym (drop-drop 3 at words) ∙ ap (drop 3) e) h;
    }

pub left_none : (p : ℕ) (ss : Spans) → left_behind p ss [] ≡ ss
unfolding left_behind
left_none p ss = refl

-- an accept rule that may accept a suspect decides; any other leaves it to the rules behind
module _ (p : ℕ) (ss : Spans) (r : ListRule) (rest : List ListRule) (before after : Suspects) where
  rule_refuses : (rule : RuleNumber) (source : ℕ) → TakenAs p r ss before (Ok (Some (rule, source))) after → model.refused rule.0 source ≡ review p ss (r ∷ rest)
  unfolding review
  rule_refuses rule source k = one_passes (may_pass p r ss) source (sym k.2) (λ y more q low. rw (k.0, q) (ap₂ model.refused k.1 low))

  rule_leaves : TakenAs p r ss before (Ok None) after → review p ss (r ∷ rest) ≡ review p (left_after p r ss) rest
  unfolding review
  rule_leaves k = when_cases (λ ph. ph ≡ review p (left_after p r ss) rest) (eqb r.action 0) (accepting r (may_pass p r ss) (review p (left_after p r ss) rest)) (review p (left_after p r ss) rest)
      (λ q. ap (λ m. accepting r m (review p (left_after p r ss) rest)) (nothing_passes (may_pass p r ss) (sym (k.0 q)))) (λ q. refl)

module _ {s words : List ℕ} {port : ℕ} {suspects : Suspects} (x : Reviewable s words port suspects) where
  abbrev list : List ListRule
  list = list_in x.inputs

  abbrev behind : List ListRule → Spans
  behind = left_behind port (suspects_in x.inputs)

  -- some rules are done, and what they leave is in the slots
  pub record Rest (at : ℕ) (now : Suspects) : Type 0 where
    pub done : List ListRule
    pub rest : List ListRule
    pub split : done ++ rest ≡ list
    pub place : length (words_of done) ≡ at
    pub slots : writes now (behind done)
    pub same : review port (behind done) rest ≡ review port (suspects_in x.inputs) list

  pub rest_all : Rest 0 suspects
  unfolding words_of
  rest_all = record {
    done = [];
    rest = list;
    split = refl;
    place = refl;
    slots = subst (writes suspects) (sym (left_none port (suspects_in x.inputs))) x.suspects;
    same = ap (λ l. review port l list) (left_none port (suspects_in x.inputs));
  }

  all_words : (done rest : List ListRule) → done ++ rest ≡ list → length (words_of done) + length (words_of rest) ≡ length words
  all_words done rest e = sym (length_both done rest) ∙ ap (λ l. length (words_of l)) e ∙ ap length (sym x.are)

  placed : Listed (Placed s) list
  placed = let n = x.inputs in list_placed s n.b (fine_is (BookStands s) (readable s) n.b (readable_placed s) n.is_book)

  module _ {at : ℕ} {now : Suspects} (l : Rest at now) where
    pub rest_kept : Kept now
    rest_kept = record { spans = behind l.done; top = greatest; rising = left_canonical x.inputs l.done l.rest l.split; slots = l.slots }

    -- behind the last rule
    pub rest_none : length words ≤ at → model.certified ≡ review port (suspects_in x.inputs) list
    unfolding words_of review
    rest_none ge = go l.rest (all_words l.done l.rest l.split) l.same
      where
        go : (o : List ListRule) → length (words_of l.done) + length (words_of o) ≡ length words → review port (behind l.done) o ≡ review port (suspects_in x.inputs) list
            → model.certified ≡ review port (suspects_in x.inputs) list
        go [] k q = q
        go (r ∷ o) k q = absurd (omega (arith, l.place))

    -- the rule at the place
    pub record Front : Type 0 where
      pub rule : ListRule
      pub others : List ListRule
      pub split : l.done ++ (rule ∷ others) ≡ list
      pub stands : RuleAt s words at rule
      pub same : review port (behind l.done) (rule ∷ others) ≡ review port (suspects_in x.inputs) list

    pub front : at < length words → Front
    unfolding words_of
    front lt = go l.rest l.split l.same
      where
        go : (o : List ListRule) → l.done ++ o ≡ list → review port (behind l.done) o ≡ review port (suspects_in x.inputs) list → Front
        go [] e q = absurd (omega (arith, all_words l.done [] e, l.place))
        go (r ∷ o) e q =
            let here : words ≡ words_of l.done ++ words_of (r ∷ o) = x.are ∙ ap words_of (sym e) ∙ words_append l.done (r ∷ o) in
            let from : drop at words ≡ words_of (r ∷ o) = ap₂ drop (sym l.place) here ∙ drop-append_seam (words_of l.done) (words_of (r ∷ o)) in
            record {
              rule = r;
              others = o;
              split = e;
              stands = words_stand s words at r (words_of o) from (every_last (λ r. Conditions (Placed s) r.conditions) l.done (r ∷ o) (subst (Listed (Placed s)) (sym e) placed)).0;
              same = q;
            }

    module _ (f : Front) (left : Suspects) (t : Result (Option (RuleNumber × ℕ)) Full) (takes : TakesRule s words at port now t left) where
      abbrev As : Result (Option (RuleNumber × ℕ)) Full → Type 0
      As u = TakenAs port f.rule (behind l.done) now u left

      taken : (u : Result (Option (RuleNumber × ℕ)) Full) → t ≡ u → As u
      taken u e = subst As e (takes f.rule f.stands (behind l.done) greatest (left_canonical x.inputs l.done l.rest l.split) l.slots)

      abbrev on : List ListRule
      on = l.done ++ (f.rule ∷ [])

      on_left : left_after port f.rule (behind l.done) ≡ behind on
      on_left = sym (left_append port (suspects_in x.inputs) l.done f.rule)

      on_split : on ++ f.others ≡ list
      on_split = append_assoc l.done (f.rule ∷ []) f.others ∙ f.split

      pub front_refuses : (rule : RuleNumber) (source : ℕ) → t ≡ Ok (Some (rule, source)) → model.refused rule.0 source ≡ review port (suspects_in x.inputs) list
      front_refuses rule source e = rule_refuses port (behind l.done) f.rule f.others now left rule source (taken (Ok (Some (rule, source))) e) ∙ f.same

      -- what a rule leaves has room
      pub front_fits : (full : Full) → t ≡ Err full → ⊥
      front_fits full e = omega (arith, (taken (Err full) e).0, ap length on_left, suspects_fit x.inputs on f.others on_split)

      pub front_left : t ≡ Ok None → Rest (at + (3 + get_or words (at + 2) 0)) left
      front_left e =
          let k = taken (Ok None) e in
          record {
            done = on;
            rest = f.others;
            split = on_split;
            place = length_both l.done (f.rule ∷ []) ∙ omega (arith, length_one f.rule, l.place, f.stands.counted);
            slots = subst (writes left) on_left k.1;
            same = ap (λ ss. review port ss f.others) (sym on_left) ∙ sym (rule_leaves port (behind l.done) f.rule f.others now left k) ∙ f.same;
          }
