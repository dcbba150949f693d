-- Document 01's cases C1 to C9: one table, and one statement.
use Rattle.std.specs.Prelude.{ℕ, List, [], ◌∷◌, ◌++◌, ◌≡◌, length, take, replicate}
use Rattle.model.specs.Limits.{program_words}
use Rattle.model.specs.Answer.{Answer, fine}
use Rattle.model.specs.Answer as answer
use Rattle.model.specs.Calls.{readable}
use Rattle.model.specs.Unfolding.{list_of, words_of}
use Rattle.model.specs.Review.{Phase, certified, refused}
use Rattle.model.specs.Entries.{Counts, unfold_entry, words_after, review_entry}
use Rattle.model.specs.Report.{report}
use Rattle.model.specs.Text.{bytes}

-- what is asked: a book's list, the report of a book and a plan, the review of a port
pub data Question : Type 0 where
  list : (book : List ℕ) → Question
  reported : (book plan : List ℕ) → Question
  reviewed : (book plan : List ℕ) (port : ℕ) → Question

pub data Reply : Type 0 where
  words : List ℕ → Reply
  text : List ℕ → Reply
  phase : Phase → Reply
  refusal : (number place : ℕ) → Reply

-- the first of the lent words after unfolding, as many as it counts
abbrev pub words_reply : Answer Counts → List ℕ → Reply
words_reply (fine c) after = words (take c.words after)
words_reply (answer.refused n p) after = refusal n p

abbrev pub phase_reply : Answer Phase → Reply
phase_reply (fine ph) = phase ph
phase_reply (answer.refused n p) = refusal n p

-- as many words as a case's list may need
abbrev pub blank : List ℕ
blank = replicate 16 0

unfoldable pub reply : Question → Reply
unfolding readable list_of words_of unfold_entry review_entry report
reply (list book) = words_reply (unfold_entry book (length blank)) (words_after (unfold_entry book (length blank)) book blank)
reply (reported book plan) = text (report book plan program_words)
reply (reviewed book plan port) = phase_reply (review_entry book plan port program_words)

pub record Case : Type 0 where
  pub question : Question
  pub answer : Reply

abbrev pub Holds : Case → Type 0
Holds c = reply c.question ≡ c.answer

infix 3 ◌says◌
abbrev pub ◌says◌ : Question → Reply → Case
◌says◌ q a = record { question = q; answer = a }

abbrev pub c1 : List ℕ
c1 = 0x01 ∷ 0x01 ∷ 0x01 ∷ 0x02 ∷ 0x01 ∷ 0x02 ∷ 0x02 ∷ 0x04 ∷ 0x00 ∷ 0x01 ∷ 0x03 ∷ 0x80 ∷ 0x80 ∷ 0xA0 ∷ 0x85 ∷ 0x0C ∷ 0xFF ∷ 0x81 ∷ 0xA0 ∷ 0x85 ∷ 0x0C ∷ 0x00 ∷ 0x00 ∷ []

abbrev pub c1_words : List ℕ
c1_words = 1 ∷ 0 ∷ 1 ∷ 10 ∷ 0 ∷ 1 ∷ 1 ∷ 44 ∷ 1 ∷ 2 ∷ 0 ∷ []

abbrev pub c2 : List ℕ
c2 = 0x01 ∷ 0x02 ∷ 0x00 ∷ 0x01 ∷ 0x80 ∷ 0x80 ∷ 0xA0 ∷ 0x85 ∷ 0x0C ∷ 0xFF ∷ 0x81 ∷ 0xA0 ∷ 0x85 ∷ 0x0C ∷ 0x01 ∷ 0x00 ∷ []

-- C2's report, line by line
abbrev c2_report : List ℕ
c2_report =
    bytes "spoof report 1\n"
    ++ bytes "rules 2 list 3\n"
    ++ bytes "port 0 certified\n"
    ++ bytes "port 1 refused rule 1 source 0.0.0.0\n"

abbrev c3 : List ℕ
c3 = 0x01 ∷ 0x01 ∷ 0x01 ∷ 0x02 ∷ 0x01 ∷ 0x02 ∷ 0x03 ∷ 0x04 ∷ 0x00 ∷ 0x01 ∷ 0x03 ∷ 0x80 ∷ 0x80 ∷ 0xA0 ∷ 0x85 ∷ 0x0C ∷ 0xFF ∷ 0x81 ∷ 0xA0 ∷ 0x85 ∷ 0x0C ∷ 0x08 ∷ 0x00 ∷ 0x00 ∷ 0x00 ∷ []

abbrev c4 : List ℕ
c4 = 0x01 ∷ 0x01 ∷ 0x01 ∷ 0x03 ∷ 0x00 ∷ 0x08 ∷ 0x00 ∷ 0x01 ∷ 0x02 ∷ 0x02 ∷ 0x04 ∷ 0x00 ∷ 0x01 ∷ 0x03 ∷ 0x80 ∷ 0x80 ∷ 0xA0 ∷ 0x85 ∷ 0x0C ∷ 0xFF ∷ 0x81 ∷ 0xA0 ∷ 0x85 ∷ 0x0C ∷ 0x00 ∷ 0x00 ∷ []

abbrev c5 : List ℕ
c5 = 0x01 ∷ 0x01 ∷ 0x01 ∷ 0x03 ∷ 0x01 ∷ 0x08 ∷ 0x00 ∷ 0x01 ∷ 0x02 ∷ 0x02 ∷ 0x04 ∷ 0x00 ∷ 0x01 ∷ 0x03 ∷ 0x80 ∷ 0x80 ∷ 0xA0 ∷ 0x85 ∷ 0x0C ∷ 0xFF ∷ 0x81 ∷ 0xA0 ∷ 0x85 ∷ 0x0C ∷ 0x00 ∷ 0x08 ∷ 0x00 ∷ []

abbrev c6 : List ℕ
c6 = 0x01 ∷ 0x01 ∷ 0x01 ∷ 0x03 ∷ 0x01 ∷ 0x02 ∷ 0x03 ∷ 0x04 ∷ 0x00 ∷ 0x01 ∷ 0x03 ∷ 0x80 ∷ 0x80 ∷ 0xA0 ∷ 0x85 ∷ 0x0C ∷ 0xFF ∷ 0x81 ∷ 0xA0 ∷ 0x85 ∷ 0x0C ∷ 0x08 ∷ 0x00 ∷ 0x01 ∷ 0x02 ∷ 0x03 ∷ 0x04 ∷ 0x00 ∷ 0x01 ∷ 0x03 ∷ 0x80 ∷ 0x80 ∷ 0xA0 ∷ 0x85 ∷ 0x0C ∷ 0xFF ∷ 0x81 ∷ 0xA0 ∷ 0x85 ∷ 0x0C ∷ 0x01 ∷ 0x08 ∷ 0x00 ∷ 0x00 ∷ 0x00 ∷ []

-- the entry has no rule
abbrev c7 : List ℕ
c7 = 0x01 ∷ 0x04 ∷ 0x01 ∷ 0x00 ∷ 0x01 ∷ 0x06 ∷ 0x02 ∷ 0x00 ∷ 0x01 ∷ 0x06 ∷ 0x03 ∷ 0x00 ∷ 0x01 ∷ 0x06 ∷ 0x02 ∷ 0x00 ∷ []

abbrev c8 : List ℕ
c8 = 0x01 ∷ 0x02 ∷ 0x01 ∷ 0x01 ∷ 0x06 ∷ 0x01 ∷ 0x08 ∷ 0x00 ∷ 0x02 ∷ 0x01 ∷ 0x00 ∷ 0x00 ∷ 0x00 ∷ []

-- port 0, with no ranges
abbrev no_ranges : List ℕ
no_ranges = 0x01 ∷ 0x01 ∷ 0x00 ∷ 0x00 ∷ []

-- C3 to C6 ask port 0 of C2's plan
abbrev pub table : List Case
table =
    -- C1: drop from port 0 unless source in 192.168.0.0/24; accept all; policy drop
    (list c1 says words c1_words)
    -- C2: with C1 the report is exactly
    ∷ (reported c1 c2 says text c2_report)
    ∷ (reviewed c1 c2 0 says phase certified)
    ∷ (reviewed c1 c2 1 says phase (refused 1 0))
    -- C3: as C1 with an unread match added to the drop: port 0 refused, rule 1, 0.0.0.0
    ∷ (reviewed c3 c2 0 says phase (refused 1 0))
    -- C4: an unread accept put before C1's rules: rule 0, 0.0.0.0
    ∷ (reviewed c4 c2 0 says phase (refused 0 0))
    -- C5: unread drop, C1's drop, unread accept: port 0 certified
    ∷ (reviewed c5 c2 0 says phase certified)
    -- C6: C1's drop twice, once with unread 0 and once with its negation, then accept: refused, rule 2, 0.0.0.0
    ∷ (reviewed c6 c2 0 says phase (refused 2 0))
    -- C7: chains 1 to 2 to 3 to 2: refusal 9, place 2
    ∷ (list c7 says refusal 9 2)
    -- C8: entry calls chain 1 under unread 0; chain 1 drops all, then accepts all; policy drop; no ranges: refused, rule 2, 0.0.0.0
    ∷ (reviewed c8 no_ranges 0 says phase (refused 2 0))
    -- C9: empty book: 2, place 0
    ∷ (list [] says refusal 2 0)
    ∷ []
