-- A STATE'S WORDS HOLD THE STATE, and a call over them is the call over it: so that the slices run through words are the slices. Assumes nothing.
use Prim.Native.Nat.{ℕ, ◌≤◌}
use native.Mathlib.Omega.{arith}
use mathlib.Core.List.{List}
use mathlib.Core.Path.{◌≡◌, refl, sym}
use lib.ListN.{length}
use lib.Seq.{take_all, take_at, drop_at}
use Rattle.model.specs.Limits.{greatest, spans_most}
use Rattle.model.specs.Review as phase
use Rattle.model.specs.Review.{Phase, running, certified}
use Rattle.model.specs.Slices.{State}
use Rattle.model.specs.Entries.{step_entry}
use Rattle.reviewer.specs.StateWords.{phase_word, rule_word, source_word, state_words, phase_in, state_in, step_over}
use Rattle.reviewer.proofs.Laws.{fits}
use Rattle.reviewer.proofs.States.{over}

phase_back : (p : Phase) → phase_in (phase_word p) (rule_word p) (source_word p) ≡ p
phase_back running = refl
phase_back certified = refl
phase_back (phase.refused rule source) = refl

phase_few : (p : Phase) → phase_word p ≤ 2
phase_few running = omega arith
phase_few certified = omega arith
phase_few (phase.refused rule source) = omega arith

-- a state as the review makes it: every slot is there, and its place and count fit a word
module _ (st : State) (place : st.place ≤ greatest) (count : st.count ≤ greatest) (lows : length st.low ≡ spans_most) (highs : length st.high ≡ spans_most) where
  pub words_hold_state : state_in (state_words st) ≡ st
  words_hold_state =
      rw (
        ← fits st.place place,
        ← fits st.count count,
        phase_back st.phase,
        take_at st.low st.high spans_most lows,
        drop_at st.low st.high spans_most lows,
        take_all spans_most st.high (omega arith),
      )

  pub step_over_words : (book list : List ℕ) → step_over book list (state_words st) ≡ step_entry book list st
  step_over_words book list = over book list (state_words st) (phase_few st.phase) st (sym words_hold_state)
