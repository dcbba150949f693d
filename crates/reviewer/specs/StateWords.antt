-- The state of a review in slices as words.
use Rattle.std.specs.Prelude.{ℕ, ◌+◌, ◌≤◌, ◌<◌, ◌≡◌, List, ◌∷◌, ◌++◌, get_or, take, drop, leb, eqb, Option, Some, None}
use Rattle.model.specs.Limits.{spans_most}
use Rattle.model.specs.Answer.{Answer, fine, refused, ◌>>=◌, when}
use Rattle.model.specs.Calls.{readable}
use Rattle.model.specs.Review as phase
use Rattle.model.specs.Review.{Phase, running, certified}
use Rattle.model.specs.Slices.{State}
use Rattle.model.specs.Entries.{step_entry, Started}
use Rattle.review.specs.States.{phase_of, state_of}
use Rattle.review.specs.declared.Phase as review_phase
use Rattle.review.specs.declared.State as review_state
use Rattle.reviewer.specs.Words.{word, given_words, answer_words, count_words}

-- a phase by its number, and the rule and source that a refused one names
abbrev pub phase_word : Phase → ℕ
phase_word running = 0
phase_word certified = 1
phase_word (phase.refused rule source) = 2

abbrev pub rule_word : Phase → ℕ
rule_word running = 0
rule_word certified = 0
rule_word (phase.refused rule source) = rule

abbrev pub source_word : Phase → ℕ
source_word running = 0
source_word certified = 0
source_word (phase.refused rule source) = source

-- six words, the lows and the highs
abbrev pub state_head : ℕ
state_head = 6

abbrev pub state_size : ℕ
state_size = state_head + (spans_most + spans_most)

abbrev pub state_words : State → List ℕ
state_words st = st.port ∷ word st.place ∷ phase_word st.phase ∷ rule_word st.phase ∷ source_word st.phase ∷ word st.count ∷ (st.low ++ st.high)

abbrev pub phase_in : ℕ → ℕ → ℕ → Phase
phase_in number rule source = when (eqb number 0) running (when (eqb number 1) certified (phase.refused rule source))

-- the state that words hold
abbrev pub state_in : List ℕ → State
state_in ws = record {
  port = get_or ws 0 0;
  place = get_or ws 1 0;
  count = get_or ws 5 0;
  low = take spans_most (drop state_head ws);
  high = take spans_most (drop (state_head + spans_most) ws);
  phase = phase_in (get_or ws 2 0) (get_or ws 3 0) (get_or ws 4 0);
}

-- what is read of a phase's number, and of a state's words: nothing where the number is none
abbrev pub PhaseRead : ℕ → ℕ → ℕ → Option review_phase.Phase → Type 0
PhaseRead number rule source None = 2 < number
PhaseRead number rule source (Some p) = (number ≤ 2) × (phase_of p ≡ phase_in number rule source)

abbrev pub StateRead : List ℕ → Option review_state.State → Type 0
StateRead ws None = 2 < get_or ws 2 0
StateRead ws (Some st) = (get_or ws 2 0 ≤ 2) × (state_of st ≡ state_in ws)

-- 1 to 10, then 14 where the phase's number is none: it is no state. Then as one call of the review in slices
abbrev pub state_read : List ℕ → Answer State
state_read ws = when (leb (get_or ws 2 0) 2) (fine (state_in ws)) (refused 14 (get_or ws 1 0))

-- what is refused so once the book is read
abbrev pub stray_over : List ℕ → ℕ → Answer State
stray_over book place = do
  b ← readable book
  refused 14 place

unfoldable pub step_over : List ℕ → List ℕ → List ℕ → Answer State
unfolding readable step_entry
step_over book list ws = do
  b ← readable book
  st ← state_read ws
  step_entry book list st

-- the state's words after it: a refusal leaves them, and so does a call over a finished state, whatever they are
abbrev pub state_words_after : Answer State → List ℕ → List ℕ
state_words_after (fine st) ws = when (eqb (get_or ws 2 0) 0) (state_words st) ws
state_words_after (refused n p) ws = ws

-- one call: the phase after it
abbrev pub step_words : Answer State → List ℕ
step_words = answer_words (λ st. given_words (phase_word st.phase) 0 0)

-- the whole review: the phase, and the rule and source of a refused one
abbrev pub review_words : Answer Phase → List ℕ
review_words = answer_words (λ p. given_words (phase_word p) (rule_word p) (source_word p))

-- the start: words and rules of the list, and the state's words, which a refusal leaves
abbrev pub start_words : Answer Started → List ℕ
start_words = answer_words (λ s. count_words s.counts)

abbrev pub start_state : Answer Started → List ℕ → List ℕ
start_state (fine s) ws = state_words s.state
start_state (refused n p) ws = ws
