-- A set has one writing: two values that write it are equal, and a value writes one set. Assumes nothing.
use Prim.Native.Nat.{ℕ}
use mathlib.Core.Bool.{true≢false}
use mathlib.Core.Path.{◌≡◌, refl, sym, ◌∙◌, ap}
use borrow.Author.Tests.{le-leb, lt-leb}
use lib.Dec.{leb}
use lib.ListN.{length}
use Rattle.std.proofs.Common.{Option, Some, None, Result, Ok, Err, is_ok}
use Rattle.model.specs.Limits.{greatest, spans_most}
use Rattle.model.specs.Spans.{Spans, complement}
use Rattle.model.specs.Review.{Phase, running}
use Rattle.model.specs.Slices.{spans_in, written}
use Rattle.model.proofs.ReadBack.{spans_back}
use Rattle.suspects.specs.declared.Suspects.{Suspects}
use Rattle.suspects.specs.declared.Full.{Full}
use Rattle.suspects.specs.Slots.{Made, writes, holding, spans_of, Complements}

pub one_writing : (ss : Spans) (s t : Suspects) → writes s ss → writes t ss → s ≡ t
one_writing ss s t v w = λ i. record { count = (v.count ∙ sym w.count) i; low = (v.low_is ∙ sym w.low_is) i; high = (v.high_is ∙ sym w.high_is) i }

-- the state that holds the value is the model's, which writes the set
pub holding_is : (ss : Spans) (s : Suspects) → writes s ss → (port place : ℕ) (phase : Phase) → holding s port place phase ≡ written port ss place phase
holding_is ss s w port place phase = λ i. record { port = port; place = place; count = w.count i; low = w.low_is i; high = w.high_is i; phase = phase }

pub spans_are : (ss : Spans) (s : Suspects) → writes s ss → spans_of s ≡ ss
spans_are ss s w = ap spans_in (holding_is ss s w 0 0 running) ∙ spans_back 0 ss 0 running

-- a state says the ranges of its suspects, whatever else it holds
pub spans_held : (s : Suspects) (port place : ℕ) (phase : Phase) → spans_in (holding s port place phase) ≡ spans_of s
unfolding spans_in
spans_held s port place phase = refl

pub one_set : (a b : Spans) (s : Suspects) → writes s a → writes s b → a ≡ b
one_set a b s v w = sym (spans_are a s v) ∙ spans_are b s w

-- a complement has one answer
pub one_complement : (s : Suspects) (r t : Option Suspects) → Complements s r → Complements s t → r ≡ t
one_complement s (Some r) (Some t) v w = ap Some (one_writing (complement greatest (spans_of s)) r t v.1 w.1)
one_complement s (Some r) None v w = absurd (true≢false (sym v.0 ∙ w))
one_complement s None (Some t) v w = absurd (true≢false (sym w.0 ∙ v))
one_complement s None None v w = refl

-- what is made of a set is there exactly where the slots have room for it
pub made_fits : (ss : Spans) (r : Result Suspects Full) → Made ss r → is_ok r ≡ leb (length ss) spans_most
made_fits ss (Ok s) m = sym (le-leb (length ss) spans_most m.fits)
made_fits ss (Err e) m = sym (lt-leb (length ss) spans_most m)
