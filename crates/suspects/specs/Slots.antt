-- How a set stands in a value of the code: its ranges in the first slots, and 0 in the others. This is its one writing. Definitions only.
use Rattle.std.specs.Prelude.{ℕ, suc, ◌-◌, ◌≤◌, ◌<◌, Bool, ◌&&◌, List, [], ◌∷◌, ◌++◌, ◌≡◌, true, false, leb, length, get_or, replicate, Option, Some, None, Result, Ok, Err}
use Rattle.model.specs.Limits.{greatest, spans_most}
use Rattle.model.specs.Spans.{Span, Spans, complement, Rising}
use Rattle.model.specs.Review.{Phase, running}
use Rattle.model.specs.Slices.{State, lows, highs, spans_in, in_writing}
use Rattle.suspects.specs.declared.Suspects.{Suspects}
use Rattle.suspects.specs.declared.Full.{Full}

-- the first n slots of low and high are the ranges of ss, in order, and the others are 0
pub record Slots (most : ℕ) (ss : Spans) (n : ℕ) (low high : List ℕ) : Type 0 where
  pub fits : length ss ≤ most
  pub count : n ≡ length ss
  pub low_is : low ≡ lows ss ++ replicate (most - length ss) 0
  pub high_is : high ≡ highs ss ++ replicate (most - length ss) 0

abbrev pub writes : Suspects → Spans → Type 0
writes s ss = Slots spans_most ss s.count s.low s.high

-- what is made: the set, or that it has more ranges than there are slots
abbrev pub Made : Spans → Result Suspects Full → Type 0
Made ss (Ok s) = writes s ss
Made ss (Err e) = spans_most < length ss

-- a state of the review with these suspects, and the ranges that it says
abbrev pub holding : Suspects → ℕ → ℕ → Phase → State
holding s port place phase = record { port = port; place = place; count = s.count; low = s.low; high = s.high; phase = phase }

abbrev pub is_written : Suspects → Bool
is_written s = in_writing (holding s 0 0 running)

abbrev pub spans_of : Suspects → Spans
spans_of s = spans_in (holding s 0 0 running)

-- the set is in its one writing, and its complement has room
abbrev pub has_complement : Suspects → Bool
has_complement s = is_written s && leb (length (complement greatest (spans_of s))) spans_most

-- then the complement, and else none
abbrev pub Complements : Suspects → Option Suspects → Type 0
Complements s (Some set) = (has_complement s ≡ true) × writes set (complement greatest (spans_of s))
Complements s None = has_complement s ≡ false

-- a range stands at a place of two lists; and ranges do, one after the other
pub record Stands (low high : List ℕ) (at : ℕ) (s : Span) : Type 0 where
  pub low_room : at < length low
  pub high_room : at < length high
  pub low_is : get_or low at 0 ≡ s.low
  pub high_is : get_or high at 0 ≡ s.high

abbrev pub Listed : List ℕ → List ℕ → ℕ → Spans → Type 0
Listed low high at [] = Unit {0}
Listed low high at (s ∷ ss) = Stands low high at s × Listed low high (suc at) ss

-- these rising ranges are what the two lists say, one for each place
pub record RangesAs (low high : List ℕ) (ss : Spans) (top : ℕ) : Type 0 where
  pub rising : Rising top 0 ss
  pub counted : length ss ≡ length low
  pub listed : Listed low high 0 ss

-- so some are
pub record Ranges (low high : List ℕ) : Type 0 where
  pub spans : Spans
  pub top : ℕ
  pub are : RangesAs low high spans top

-- what lies outside whatever rising ranges they are
abbrev pub Outside : List ℕ → List ℕ → Suspects → Type 0
Outside low high r = (ranges : Spans) (top : ℕ) → RangesAs low high ranges top → writes r (complement greatest ranges)
