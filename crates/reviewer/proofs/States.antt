-- One call over a state's words. Assumes nothing.
use Rattle.std.proofs.Common.{◌≡◌, ℕ, ◌≤◌, ◌<◌, List, get_or, refl, sym, ◌∙◌, ap, Result, Ok, Err}
use lib.Dec.{leb, eqb}
use borrow.Author.Tests.{le-leb, lt-leb, eq-eqb, ne_eqb}
use Rattle.model.specs.Answer.{Answer, fine, refused, ◌>>=◌}
use Rattle.model.specs.Tree.{Book}
use Rattle.model.specs.Calls.{readable}
use Rattle.model.specs.Slices as model
use Rattle.model.specs.Entries.{step_entry}
use Rattle.refusals.specs.Refusals.{number_of, told_as}
use Rattle.refusals.specs.declared.Refusal.{Refusal}
use Rattle.review.specs.States.{phase_of, state_of, SteppedBy}
use Rattle.review.specs.declared.State.{State}
use Rattle.reviewer.specs.Words.{refusal_words, given_words}
use Rattle.reviewer.specs.StateWords.{phase_word, state_words, state_in, stray_over, step_over, step_words, state_words_after}

-- a phase that is none: the book's refusals, and then 14
module _ (book list ws : List ℕ) (many : 2 < get_or ws 2 0) where
  over_stray : step_over book list ws ≡ stray_over book (get_or ws 1 0)
  unfolding step_over
  over_stray = let k : leb (get_or ws 2 0) 2 ≡ _ = lt-leb (get_or ws 2 0) 2 many in rw k

  pub step_stray : (e : Refusal) → refused (number_of e.fault) e.place ≡ stray_over book (get_or ws 1 0)
      → (refusal_words (number_of e.fault) e.place ≡ step_words (step_over book list ws)) × (ws ≡ state_words_after (step_over book list ws) ws)
  step_stray e q = let k = q ∙ sym over_stray in (ap step_words k, ap (λ a. state_words_after a ws) k)

-- a state: as the call over it
module _ (book list ws : List ℕ) (few : get_or ws 2 0 ≤ 2) (st : model.State) (asked : st ≡ state_in ws) where
  pub over : step_over book list ws ≡ step_entry book list st
  unfolding step_over step_entry
  over = let k : leb (get_or ws 2 0) 2 ≡ _ = le-leb (get_or ws 2 0) 2 few in rw (k, asked) (same (readable book) refl)
    where
      same : (a : Answer Book) → readable book ≡ a → ◌>>=◌ a (λ b. step_entry book list (state_in ws)) ≡ step_entry book list (state_in ws)
      same (fine b) e = refl
      same (refused n p) e = rw e

module _ (book list ws : List ℕ) (few : get_or ws 2 0 ≤ 2) (st : State) (asked : state_of st ≡ state_in ws) (r : Result (Unit {0}) Refusal) (after : State)
    (h : SteppedBy (step_entry book list (state_of st)) st r after) where
  answers : told_as (λ (u : Unit {0}). state_of after) r ≡ step_over book list ws
  answers = h.answer ∙ sym (over book list ws few (state_of st) asked)

  pub step_refused : (e : Refusal) → r ≡ Err e
      → (refusal_words (number_of e.fault) e.place ≡ step_words (step_over book list ws)) × (ws ≡ state_words_after (step_over book list ws) ws)
  step_refused e q = let k = sym (ap (told_as (λ (u : Unit {0}). state_of after)) q) ∙ answers in (ap step_words k, ap (λ a. state_words_after a ws) k)

  module _ (u : Unit {0}) (q : r ≡ Ok u) where
    -- it goes on: the state after it
    goes : fine (state_of after) ≡ step_over book list ws
    goes = sym (ap (told_as (λ (u : Unit {0}). state_of after)) q) ∙ answers

    pub step_goes : given_words (phase_word (phase_of after.phase)) 0 0 ≡ step_words (step_over book list ws)
    step_goes = ap step_words goes

    pub step_moves : get_or ws 2 0 ≡ 0 → state_words (state_of after) ≡ state_words_after (step_over book list ws) ws
    step_moves z = let k : eqb (get_or ws 2 0) 0 ≡ _ = eq-eqb (get_or ws 2 0) 0 z in rw (← goes, k)

    pub step_stays : (get_or ws 2 0 ≡ 0 → ⊥) → ws ≡ state_words_after (step_over book list ws) ws
    step_stays z = let k : eqb (get_or ws 2 0) 0 ≡ _ = ne_eqb (get_or ws 2 0) 0 z in rw (← goes, k)
