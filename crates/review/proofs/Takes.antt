-- One rule of the list, path by path: an accept rule by the lowest suspect that may pass, a drop rule by the suspects that it leaves. Assumes nothing.
use Rattle.std.proofs.Common.{◌≡◌, ℕ, ◌+◌, ◌-◌, List, get_or, take, drop, true, false, refl, sym, ◌∙◌, ap, subst, arith, Option, Some, None, Result, Ok, Err}
use Rattle.std.specs.Option.{option_map, MatchOption, IsSomeAnd}
use mathlib.Core.Bool.{true≢false}
use borrow.Author.Tests.{eq-eqb, ne_eqb}
use lib.Dec.{eqb}
use Rattle.model.specs.Unfolding.{ListRule}
use Rattle.model.specs.Spans.{Spans}
use Rattle.model.specs.Review.{may_pass, left_after}
use Rattle.book.specs.declared.RuleNumber.{RuleNumber}
use Rattle.matching.specs.Conditions.{WrittenAs, Writing}
use Rattle.matching.proofs.Words.{narrowed}
use Rattle.suspects.specs.Slots.{writes}
use Rattle.suspects.specs.declared.Full.{Full}
use Rattle.suspects.specs.declared.Suspects.{Suspects}
use Rattle.sweep.specs.Sweep.{Drops, Passes, lowest}
use Rattle.review.specs.Taken.{RuleAt, HasRule, TakenAs, TakesRule}

-- a rule's number, with the source that it refuses
abbrev pub named : List ℕ → ℕ → ℕ → RuleNumber × ℕ
named words at x = (record { 0 = get_or words (at + 1) 0 }, x)

-- what `map` answers
pub mapped : {A B : Type 0} (g : A → B) {Q : A → B → Type 0} (f : Option A) (m : Option B) → MatchOption f (m ≡ None) (λ x. IsSomeAnd m (Q x)) → ((x : A) (r : B) → Q x r → r ≡ g x) → m ≡ option_map g f
mapped g None m h q = h
mapped g (Some x) None h q = absurd h
mapped g (Some x) (Some r) h q = ap Some (q x r h)

module _ (s words : List ℕ) (at port : ℕ) (before : Suspects) where
  -- how many words its conditions are; and these, as the code cuts them out
  abbrev count : ℕ
  count = at + 3 + get_or words (at + 2) 0 - (at + 3)

  abbrev cut : List ℕ
  cut = take count (drop (at + 3) words)

  written : (r : ListRule) → RuleAt s words at r → WrittenAs s cut r.conditions
  written r h = narrowed s words (at + 3) count (omega (arith, h.room)) r.conditions (omega (arith, h.counted)) h.written

  pub has_writing : HasRule s words at → Writing s cut
  has_writing h = record { conditions = h.rule.conditions; are = written h.rule h.stands }

  module _ (zero : get_or words at 0 ≡ 0) where
    accepts : (r : ListRule) → RuleAt s words at r → eqb r.action 0 ≡ true
    accepts r h = eq-eqb r.action 0 (h.action ∙ zero)

    keeps : (r : ListRule) → RuleAt s words at r → (ss : Spans) → left_after port r ss ≡ ss
    keeps r h ss = rw (accepts r h)

    pub takes_first : (f : Option ℕ) → Passes s cut port before f → TakesRule s words at port before (Ok (option_map (named words at) f)) before
    takes_first f p r h ss top rise w = go f (p r.conditions (written r h) ss top rise w)
      where
        go : (f : Option ℕ) → f ≡ lowest (may_pass port r ss) → TakenAs port r ss before (Ok (option_map (named words at) f)) before
        go (Some x) q = (accepts r h, sym h.number, sym q, refl)
        go None q = (λ a. sym q, subst (writes before) (sym (keeps r h ss)) w)

  module _ (other : get_or words at 0 ≡ 0 → ⊥) (f : Result Suspects Full) (d : Drops s cut port before f) where
    is_other : (r : ListRule) → RuleAt s words at r → eqb r.action 0 ≡ false
    is_other r h = ne_eqb r.action 0 (λ q. other (sym h.action ∙ q))

    pub takes_rest : (left : Suspects) → f ≡ Ok left → TakesRule s words at port before (Ok None) left
    takes_rest left q r h ss top rise w = (
      λ a. absurd (true≢false (sym a ∙ is_other r h)),
      rw (is_other r h) (rw q at (d r.conditions (written r h) ss top rise w)),
    )

    pub takes_full : (full : Full) → f ≡ Err full → TakesRule s words at port before (Err full) before
    takes_full full q r h ss top rise w = (rw (is_other r h) (rw q at (d r.conditions (written r h) ss top rise w)), refl)
