-- TWO ANSWERS THAT MEET AN EXPORT'S STATEMENT ARE EQUAL, and so is all lent memory after them. Each statement is an equation. Assumes nothing.
use Prim.Native.Nat.{ℕ}
use mathlib.Core.List.{List}
use mathlib.Core.Path.{◌≡◌, sym, ◌∙◌}
use lib.ListN.{length}
use Rattle.model.specs.Answer.{Answer}
use Rattle.model.specs.Entries.{check_entry, unfold_entry, chain_entry, list_entry, closure_entry, review_entry, Started, start_entry, words_after}
use Rattle.model.specs.Report.{report}
use Rattle.report.specs.Reports.{report_entry, answer_of, text_after}
use Rattle.rules.specs.Rules.{rule_bounds}
use Rattle.reviewer.specs.Words.{check_words, rule_words, unfold_words, packet_in, verdict_words, closure_of, report_words}
use Rattle.reviewer.specs.StateWords.{review_words, start_words, start_state, step_over, step_words, state_words_after}

module _ (x y : List ℕ) where
  pub one_check : (book : List ℕ) → x ≡ check_words (check_entry book) → y ≡ check_words (check_entry book) → x ≡ y
  one_check book p q = p ∙ sym q

  pub one_rule : (book : List ℕ) (rule : ℕ) → x ≡ rule_words (rule_bounds book rule) → y ≡ rule_words (rule_bounds book rule) → x ≡ y
  one_rule book rule p q = p ∙ sym q

  pub one_chain_verdict : (book answers packet : List ℕ) → x ≡ verdict_words (chain_entry book answers (packet_in packet)) →
      y ≡ verdict_words (chain_entry book answers (packet_in packet)) → x ≡ y
  one_chain_verdict book answers packet p q = p ∙ sym q

-- the answer's words, and the lent words
abbrev pub Leaves : {A : Type 0} → (Answer A → List ℕ) → Answer A → List ℕ → List ℕ → List ℕ → List ℕ → Type 0
Leaves in_words a book lent answer after = (answer ≡ in_words a) × (after ≡ words_after a book lent)

one : {A : Type 0} (in_words : Answer A → List ℕ) (a : Answer A) (book lent x y w v : List ℕ) → Leaves in_words a book lent x w →
    Leaves in_words a book lent y v → (x ≡ y) × (w ≡ v)
one in_words a book lent x y w v p q = (p.0 ∙ sym q.0, p.1 ∙ sym q.1)

module _ (book lent x y w v : List ℕ) where
  pub one_unfold : Leaves unfold_words (unfold_entry book (length lent)) book lent x w →
      Leaves unfold_words (unfold_entry book (length lent)) book lent y v → (x ≡ y) × (w ≡ v)
  one_unfold = one unfold_words (unfold_entry book (length lent)) book lent x y w v

  pub one_list_verdict : (answers packet : List ℕ) →
      Leaves verdict_words (list_entry book answers (packet_in packet) (length lent)) book lent x w →
      Leaves verdict_words (list_entry book answers (packet_in packet) (length lent)) book lent y v → (x ≡ y) × (w ≡ v)
  one_list_verdict answers packet = one verdict_words (list_entry book answers (packet_in packet) (length lent)) book lent x y w v

  pub one_closure : (upper : ℕ) (packet : List ℕ) →
      Leaves verdict_words (closure_entry (closure_of upper) book (packet_in packet) (length lent)) book lent x w →
      Leaves verdict_words (closure_entry (closure_of upper) book (packet_in packet) (length lent)) book lent y v → (x ≡ y) × (w ≡ v)
  one_closure upper packet = one verdict_words (closure_entry (closure_of upper) book (packet_in packet) (length lent)) book lent x y w v

  pub one_review : (plan : List ℕ) (port : ℕ) →
      Leaves review_words (review_entry book plan port (length lent)) book lent x w →
      Leaves review_words (review_entry book plan port (length lent)) book lent y v → (x ≡ y) × (w ≡ v)
  one_review plan port = one review_words (review_entry book plan port (length lent)) book lent x y w v

-- the answer's words, the state's, and the lent words
abbrev pub Begins : Answer Started → List ℕ → List ℕ → List ℕ → List ℕ → List ℕ → List ℕ → Type 0
Begins a book lent state answer after words = (answer ≡ start_words a) × (after ≡ start_state a state) × (words ≡ words_after a book lent)

pub one_start : (book plan : List ℕ) (port : ℕ) (lent state x y s t w v : List ℕ) →
    Begins (start_entry book plan port (length lent)) book lent state x s w →
    Begins (start_entry book plan port (length lent)) book lent state y t v → (x ≡ y) × (s ≡ t) × (w ≡ v)
one_start book plan port lent state x y s t w v p q = (p.0 ∙ sym q.0, p.1 ∙ sym q.1, p.2 ∙ sym q.2)

-- the answer's words, the text, and the lent words
abbrev pub Reports : List ℕ → List ℕ → List ℕ → List ℕ → List ℕ → List ℕ → List ℕ → Type 0
Reports book plan lent text answer after words =
    (answer ≡ report_words (answer_of (report book plan (length lent)) (length text))) × (after ≡ text_after (report book plan (length lent)) text)
    × (words ≡ words_after (report_entry book plan (length lent)) book lent)

pub one_report : (book plan lent text x y s t w v : List ℕ) → Reports book plan lent text x s w → Reports book plan lent text y t v → (x ≡ y) × (s ≡ t) × (w ≡ v)
one_report book plan lent text x y s t w v p q = (p.0 ∙ sym q.0, p.1 ∙ sym q.1, p.2 ∙ sym q.2)

-- the answer's words, and the state's
abbrev pub Steps : List ℕ → List ℕ → List ℕ → List ℕ → List ℕ → Type 0
Steps book list state answer after = (answer ≡ step_words (step_over book list state)) × (after ≡ state_words_after (step_over book list state) state)

pub one_step : (book list state x y w v : List ℕ) → Steps book list state x w → Steps book list state y v → (x ≡ y) × (w ≡ v)
one_step book list state x y w v p q = (p.0 ∙ sym q.0, p.1 ∙ sym q.1)
