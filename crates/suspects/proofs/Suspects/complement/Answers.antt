-- `suspects::Suspects::complement` meets its contract: where the value is a set's one writing, it is the gaps of its ranges. Assumes nothing.
use Rattle.std.proofs.Common.{◌≡◌, ◌≤◌, true, Result, Ok, Err, sym, ◌∙◌, arith, length, take}
use Rattle.std.specs.Result.{result_ok}
use borrow.Author.Tests.{le-leb, lt-leb}
use Rattle.model.specs.Limits.{greatest, spans_most}
use Rattle.model.specs.Spans.{complement}
use Rattle.model.specs.Review.{running}
use Rattle.suspects.specs.declared.Full.{Full}
use Rattle.suspects.specs.declared.Suspects.{Suspects}
use Rattle.suspects.specs.Slots.{Made, Ranges, RangesAs, Complements, holding, is_written, spans_of}
use Rattle.suspects.specs.Build.{Gaps}
use Rattle.suspects.proofs.Told.{Told, told, slots_ranges}
use Rattle.suspects.proofs.Suspects.complement.Goals as goal

-- where the test holds, the value writes rising ranges, and what is made of their gaps is its complement
module _ (s : Suspects) (a : length s.low ≡ spans_most) (b : length s.high ≡ spans_most) (is : is_written s ≡ true) where
  here : Told (holding s 0 0 running)
  here = told (holding s 0 0 running) a b is

  ranges : RangesAs (take s.count s.low) (take s.count s.high) (spans_of s) here.rises.top
  ranges = slots_ranges spans_most here.rises.top (spans_of s) s.count s.low s.high here.slots here.rises.rises

  ranges_are : Ranges (take s.count s.low) (take s.count s.high)
  ranges_are = record { spans = spans_of s; top = here.rises.top; are = ranges }

  fits : s.count ≤ spans_most
  fits = omega (arith, here.slots.fits, here.slots.count)

complement_is : (s : Suspects) → is_written s ≡ true → (r : Result Suspects Full) → Made (complement greatest (spans_of s)) r → Complements s (result_ok r)
complement_is s is (Ok t) m = (rw (is, le-leb (length (complement greatest (spans_of s))) spans_most m.fits), m)
complement_is s is (Err e) m = rw (is, lt-leb (length (complement greatest (spans_of s))) spans_most m)

pub split_at-requires : goal.split_at-requires
split_at-requires c = let e = fits c.args.self.now (omega arith) (omega arith) (sym (c.is_written.ensures 0 0 running) ∙ c.if-not-is_written.false) in omega arith

pub split_at-requires-2 : goal.split_at-requires-2
split_at-requires-2 c = let e = fits c.args.self.now (omega arith) (omega arith) (sym (c.is_written.ensures 0 0 running) ∙ c.if-not-is_written.false) in omega arith

pub gaps-requires : goal.gaps-requires
gaps-requires c = let s = c.args.self.now in
    let is = sym (c.is_written.ensures 0 0 running) ∙ c.if-not-is_written.false in
    rw (c.split_at.ensures.front, c.split_at-2.ensures.front) (ranges_are s (omega arith) (omega arith) is)

pub returns : goal.returns
returns c = let s = c.args.self.now in
    let is = sym (c.is_written.ensures 0 0 running) ∙ c.if-not-is_written.false in
    let r : Gaps (take s.count s.low) (take s.count s.high) c.gaps.result = rw (sym c.split_at.ensures.front, sym c.split_at-2.ensures.front) c.gaps.ensures in
    rw c.ok.ensures.value (complement_is s is c.gaps.result (r.made _ _ (ranges s (omega arith) (omega arith) is)))
