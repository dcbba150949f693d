-- To write the ranges that are left is to write all: one law for each way through a turn of the loop.
use Rattle.std.specs.Prelude.{Result, Ok, Err}
use Rattle.std.proofs.Common.{◌≡◌, ◌∙◌, ℕ, suc, ◌+◌, ◌<◌, List, [], ◌∷◌, length, set, refl, ap, sym}
use Rattle.model.specs.Limits.{greatest}
use Rattle.model.specs.Reader.{Stand, Read, got, after}
use Rattle.model.specs.Book.{within}
use Rattle.model.specs.Spans.{Span, Spans}
use Rattle.model.specs.Plan.{ranges_from}
use Rattle.model.proofs.Filling.{put_none, put_more}
use Rattle.numbers.specs.declared.Number.{Number}
use Rattle.refusals.specs.declared.Refusal.{Refusal}
use Rattle.plan.specs.declared.PlanContents.{PlanContents}
use Rattle.plan.specs.Contents.{lows, highs}
use Rattle.plan.specs.Written.{standing, laid, FieldGot, FieldIs, RangesGot, RangesAre}
use Rattle.plan.proofs.Readings.{stop, given, on_field}

abbrev span : ℕ → ℕ → Span
span low high = record { low = low; high = high }

-- one range stored
abbrev stored : PlanContents → ℕ → ℕ → ℕ → PlanContents
stored c i low high = record { ports = c.ports; number = c.number; first = c.first; low = set c.low i low; high = set c.high i high }

pub laid_none : (c : PlanContents) (i : ℕ) → c ≡ laid c i []
laid_none c i = λ j. record { ports = c.ports; number = c.number; first = c.first; low = sym (put_none c.low i) j; high = sym (put_none c.high i) j }

laid_more : (c : PlanContents) (i low high : ℕ) (rs : Spans) → i < length c.low → i < length c.high → laid (stored c i low high) (i + 1) rs ≡ laid c i (span low high ∷ rs)
laid_more c i low high rs p q = λ j. record { ports = c.ports; number = c.number; first = c.first; low = put_more c.low i low (lows rs) p j; high = put_more c.high i high (highs rs) q j }

-- what follows the low of a range, with m ranges behind it
abbrev others : List ℕ → ℕ → ℕ → Stand → Read Spans
others s m low st = after (within low greatest s st) (λ high st₁. after (ranges_from m (high + 2) s st₁) (λ rest st₂. got (span low high ∷ rest) st₂))

module _ (s : List ℕ) (c : PlanContents) (i : ℕ) where
  pub ranges_none : (n least at : ℕ) → n ≡ 0 → RangesAre n i c c (Ok at) (ranges_from n least s (standing at))
  unfolding ranges_from
  ranges_none n least at e = rw e (record { stands = refl; count = refl; writes = laid_none c i })

  module _ (c' : PlanContents) (n m : ℕ) (one_more : n ≡ suc m) (least at : ℕ) where
    ranges_step : ranges_from n least s (standing at) ≡ after (within least greatest s (standing at)) (others s m)
    unfolding ranges_from
    ranges_step = rw one_more

    pub ranges_low : (e : Refusal) → FieldIs least greatest (Err e) (within least greatest s (standing at)) → RangesAre n i c c' (Err e) (ranges_from n least s (standing at))
    ranges_low e h = rw ranges_step (stop (RangesGot n i c c') (others s m) (FieldGot least greatest) e (within least greatest s (standing at)) h)

    module _ (low : Number) (is_low : FieldIs least greatest (Ok low) (within least greatest s (standing at))) where
      pub ranges_high : (e : Refusal) → FieldIs low.value greatest (Err e) (within low.value greatest s (standing low.next)) → RangesAre n i c c' (Err e) (ranges_from n least s (standing at))
      ranges_high e h = rw ranges_step (on_field (RangesGot n i c c') (others s m) least greatest low (Err e) (within least greatest s (standing at)) is_low
          (stop (RangesGot n i c c') _ (FieldGot low.value greatest) e (within low.value greatest s (standing low.next)) h))

      -- one range more stands in slot i
      pub ranges_more : (high : Number) → FieldIs low.value greatest (Ok high) (within low.value greatest s (standing low.next)) → i < length c.low → i < length c.high →
          (r : Result ℕ Refusal) → RangesAre m (i + 1) (stored c i low.value high.value) c' r (ranges_from m (high.value + 2) s (standing high.next)) →
          RangesAre n i c c' r (ranges_from n least s (standing at))
      ranges_more high is-high p q r h =
          rw ranges_step (on_field (RangesGot n i c c') (others s m) least greatest low r (within least greatest s (standing at)) is_low
          (on_field (RangesGot n i c c') _ low.value greatest high r (within low.value greatest s (standing low.next)) is-high
          (given (RangesGot n i c c') (λ rest. span low.value high.value ∷ rest) (RangesGot m (i + 1) (stored c i low.value high.value) c') r (ranges_from m (high.value + 2) s (standing high.next)) h
          (λ rest st next g. record { stands = g.stands; count = ap suc g.count ∙ sym one_more; writes = g.writes ∙ laid_more c i low.value high.value rest p q }))))
