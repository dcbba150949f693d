-- One call over a state, from the book's reading on. Assumes nothing.
use Rattle.std.proofs.Common.{◌≡◌, ℕ, List, Bool, true, false, refl, sym, ◌∙◌, ap, subst, Result, Ok, Err}
use mathlib.Core.Option.{some}
use Rattle.model.specs.Answer.{Answer, fine, refused, when}
use Rattle.model.specs.Calls.{readable}
use Rattle.model.specs.Tree.{Book}
use Rattle.model.specs.Unfolding.{ListRule}
use Rattle.model.specs.Slices as slices
use Rattle.model.specs.Slices.{in_writing, rule_at, take_rule, step_in, step}
use Rattle.model.specs.Entries.{step_entry}
use Rattle.model.proofs.EntriesBehind.{step_answers}
use Rattle.refusals.specs.Refusals.{number_of, refusal_at}
use Rattle.refusals.specs.declared.Fault.TheVariants.{StrayState}
use Rattle.refusals.specs.declared.Refusal.{Refusal}
use Rattle.checking.specs.Checks.{CheckedFrom}
use Rattle.checking.specs.declared.Checked.{Checked}
use Rattle.review.specs.declared.Phase.{Phase}
use Rattle.review.specs.declared.Phase.TheVariants.{Running, Certified, Refused}
use Rattle.review.specs.declared.State.{State}
use Rattle.review.specs.States.{phase_of, state_of, SteppedBy}
use Rattle.review.specs.Taken.{RuleAt, HasRule}
use Rattle.review.specs.Known.{found, Known, HasBook}
use Rattle.review.proofs.Stands.{found_some, found_none, rule_stands}

abbrev Unit0 : Type 0
Unit0 = Unit {0}

module _ (s words : List ℕ) (st : State) where
  abbrev entry : Answer slices.State
  entry = step_entry s words (state_of st)

  -- the book's own refusals
  pub entry_refused : (e : Refusal) → readable s ≡ refused (number_of e.fault) e.place → SteppedBy {U = Unit0} entry st (Err e) st
  unfolding step_entry
  entry_refused e q = rw q (record { answer = refl; state = refl })

  module _ (k : Checked) (f : CheckedFrom s k) where
    abbrev b : Book
    b = f.book

    pub known : Known k.contents b
    known = record { bytes = s; read = f.read; contents = f.contents }

    pub has_book : HasBook k.contents
    has_book = record { book = b; known = known }

    by : (a : Answer slices.State) (r : Result Unit0 Refusal) (after : State) → step b words (state_of st) ≡ a → SteppedBy a st r after → SteppedBy {U = Unit0} entry st r after
    by a r after e h = subst (λ a. SteppedBy a st r after) (sym (step_answers s words (state_of st) b f.read ∙ e)) h

    phased : (ph : Phase) → st.phase ≡ ph → step b words (state_of st) ≡ step_in (phase_of ph) b words (state_of st)
    unfolding step
    phased ph e = ap (λ p. step_in (phase_of p) b words (state_of st)) e

    -- a finished state stays
    pub call_finished : (st.phase ≡ Running → ⊥) → SteppedBy {U = Unit0} entry st (Ok tt) st
    call_finished n = go st.phase refl
      where
        go : (ph : Phase) → st.phase ≡ ph → SteppedBy {U = Unit0} entry st (Ok tt) st
        go Running e = absurd (n e)
        go Certified e = by (fine (state_of st)) (Ok tt) st (phased Certified e) (record { answer = refl; state = refl })
        go (Refused rule source) e = by (fine (state_of st)) (Ok tt) st (phased (Refused rule source) e) (record { answer = refl; state = refl })

    abbrev stray : Result Unit0 Refusal
    stray = Err (refusal_at StrayState st.place)

    module _ (e : st.phase ≡ Running) where
      pub call_unwritten : in_writing (state_of st) ≡ false → SteppedBy {U = Unit0} entry st stray st
      call_unwritten w = by (refused 14 st.place) stray st (phased Running e ∙ rw w) (record { answer = refl; state = refl })

      module _ (w : in_writing (state_of st) ≡ true) (told : Bool) (h : told ≡ found (rule_at b words st.place)) where
        pub call_unknown : told ≡ false → SteppedBy {U = Unit0} entry st stray st
        call_unknown n = by (refused 14 st.place) stray st (phased Running e ∙ rw (w, found_none (rule_at b words st.place) (sym n ∙ h))) (record { answer = refl; state = refl })

        module _ (t : told ≡ true) where
          abbrev is : (r : ListRule) × (rule_at b words st.place ≡ some r)
          is = found_some (rule_at b words st.place) (sym t ∙ h)

          pub call_has : HasRule s words st.place
          call_has = record { rule = is.0; stands = rule_stands s b f.read words st.place is.0 is.1 }

          pub call_rule : (r : Result Unit0 Refusal) (after : State) → ((rule : ListRule) → RuleAt s words st.place rule → SteppedBy (take_rule words (state_of st) (some rule)) st r after)
              → SteppedBy {U = Unit0} entry st r after
          call_rule r after g = go is.0 is.1 (g is.0 (rule_stands s b f.read words st.place is.0 is.1))
            where
              go : (rule : ListRule) → rule_at b words st.place ≡ some rule → SteppedBy (take_rule words (state_of st) (some rule)) st r after → SteppedBy entry st r after
              go rule q h = by (take_rule words (state_of st) (some rule)) r after (phased Running e ∙ ap (λ w. when w (take_rule words (state_of st) (rule_at b words st.place)) (refused 14 st.place)) w ∙ ap (take_rule words (state_of st)) q) h
