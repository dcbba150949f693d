-- `suspects::gaps` meets its contract. The invariant: of whatever rising ranges these are, the complement below `next` is held, and the ranges
-- that are left lie ahead. Assumes nothing.
use Rattle.std.proofs.Common.{◌≡◌, ℕ, ◌+◌, ◌-◌, ◌≤◌, ◌<◌, min, List, ⊎_elim, sym, subst, arith, get_or, length, length-append}
use Rattle.std.proofs.Common.{Ok, Err, [], ◌∷◌, ◌∙◌}
use Rattle.std.proofs.lemmas.Result.{err_from_is_err_and}
use Rattle.std.proofs.lemmas.Slice.Zip.{zip_turn, zip_end}
use Rattle.model.specs.Limits.{greatest, spans_most}
use Rattle.model.specs.Spans.{Spans, complement}
use Rattle.suspects.specs.declared.Full.{Full}
use Rattle.suspects.specs.declared.Suspects.{Suspects}
use Rattle.suspects.specs.Slots.{Ranges, RangesAs}
use Rattle.suspects.specs.Build.{Filled, Fills, Gaps, HeldIn, NoRoom}
use Rattle.suspects.proofs.Ahead.{room_high}
use Rattle.suspects.proofs.Between.{Gapped, gapped_all, gap_filled, gap_next, gap_end, made_of, made_full, complement_rises, beyond}
use Rattle.suspects.proofs.Chains.{lt_or_le}
use Rattle.suspects.proofs.gaps.Goals as goal

-- what the loop keeps, once k of the ranges are passed
abbrev Kept : List ℕ → List ℕ → ℕ → ℕ → Suspects → Type 0
Kept low high next k set = (ranges : Spans) (top : ℕ) → RangesAs low high ranges top
    → Gapped spans_most greatest ranges top low high next k (length low - k) set.count set.low set.high

module _ (low high : List ℕ) (p : Ranges low high) (next k : ℕ) (set : Suspects) (keeps : Kept low high next k set) where
  filled : Filled set
  filled = let g = keeps p.spans p.top p.are in record { spans = g.held.spans; slots = g.held.slots }

  all_passed : k ≡ min (length low) (length high) → length low ≤ k
  all_passed e = ⊎_elim
      (λ h. let r : k < length high = room_high _ _ _ _ _ _ _ (keeps p.spans p.top p.are).onward (omega arith) in absurd (omega arith))
      (λ h. h) (lt_or_le k (length low))

  -- at a range
  module _ (some : k < length low) (from to : ℕ) (from_is : from ≡ get_or low k 0) (to_is : to ≡ get_or high k 0) (from-fits : from ≤ greatest) (after : Suspects) where
    full_here : (e d : Full) → Fills {A = Unit {0}} next from set (Err e) after → set.count ≤ k → Gaps low high (Err d)
    full_here e d f h = record {
      few = omega (arith, f.adds.0);
      made = λ ranges top r. made_full spans_most (complement greatest ranges) from greatest (complement_rises spans_most greatest ranges top low high r.rising)
          (gap_filled spans_most greatest ranges top low high r.rising next k (length low - k) set.count set.low set.high (keeps ranges top r) (omega arith)
          from to from_is to_is from-fits (λ P. NoRoom spans_most P from) f.grown);
    }

    kept : (u : Unit {0}) → Fills {A = Unit {0}} next from set (Ok u) after → to ≤ greatest → (m : ℕ) → m ≡ k + 1 → Kept low high (to + 1) m after
    kept u f h m e ranges top r =
        let left : length low - k - 1 ≡ length low - m = omega arith in
        let g = gap_filled spans_most greatest ranges top low high r.rising next k (length low - k) set.count set.low set.high (keeps ranges top r) (omega arith)
        from to from_is to_is from-fits (λ P. HeldIn P from after) f.grown in
        subst (λ at. Gapped spans_most greatest ranges top low high (to + 1) at (length low - m) after.count after.low after.high) (sym e)
        (subst (λ n. Gapped spans_most greatest ranges top low high (to + 1) (k + 1) n after.count after.low after.high) left
        (gap_next spans_most greatest ranges top low high r.rising next k (length low - k) set.count set.low set.high (keeps ranges top r) (omega arith)
        from to from_is to_is from-fits h after.count after.low after.high g))

  -- behind the last
  module _ (none : length low ≤ k) (h : next ≤ greatest + 1) (after : Suspects) where
    full_end : (e d : Full) → Fills {A = Unit {0}} next (greatest + 1) set (Err e) after → set.count ≤ length low → Gaps low high (Err d)
    full_end e d f n = record {
      few = omega (arith, f.adds.0);
      made = λ ranges top r. made_full spans_most (complement greatest ranges) (greatest + 1) greatest
          (complement_rises spans_most greatest ranges top low high r.rising)
          (gap_end spans_most greatest ranges top low high r.rising next k (length low - k) set.count set.low set.high (keeps ranges top r) (omega arith) h
          (λ P. NoRoom spans_most P (greatest + 1)) f.grown);
    }

    made_end : (u : Unit {0}) → Fills {A = Unit {0}} next (greatest + 1) set (Ok u) after → Gaps low high (Ok after)
    made_end u f = record {
      few = tt;
      made = λ ranges top r. made_of spans_most (complement greatest ranges) (greatest + 1) greatest after.count after.low after.high
          (complement_rises spans_most greatest ranges top low high r.rising) (beyond spans_most greatest ranges top low high r.rising)
          (gap_end spans_most greatest ranges top low high r.rising next k (length low - k) set.count set.low set.high (keeps ranges top r) (omega arith) h
          (λ P. HeldIn P (greatest + 1) after) f.grown);
    }

pub loop-from-init : goal.loop-from-init
loop-from-init c = let s = c.empty-set in record {
  fits = omega arith;
  few = omega (arith, s.ensures.count);
  gapped = λ ranges top r. gapped_all spans_most greatest ranges top c.args.low.now c.args.high.now 0 (length c.args.low.now - 0)
      s.result.count s.result.low s.result.high
      r.rising (omega (arith, r.counted)) r.listed s.ensures;
}

pub fill-requires-clause-filled : goal.fill-requires-clause-filled
fill-requires-clause-filled c = let l = c.loop-from in filled c.args.low.now c.args.high.now c.requires l.next (length l.yielded) l.set l.invariant.gapped

pub returns-in_err-fill : goal.returns-in_err-fill
returns-in_err-fill c =
    let a = c.args in
    let l = c.loop-from in
    let t = zip_turn a.low.now a.high.now l.yielded c.into_iter-from-iterator.result l.from-iterator c.next.new.self c.next.result (cc) (cc)
    l.yielded_by _ c.in-Some.is c.next.ensures.steps in
    let fits : c.from.result ≤ greatest = omega (arith, c.from.ensures, t.2 0, c.type_inv.low (length l.yielded)) in
    let p = err_from_is_err_and c.from_residual.result c.from_residual.ensures.1 in
    rw p.1 (full_here a.low.now a.high.now c.requires l.next (length l.yielded) l.set l.invariant.gapped t.0
    c.from.result c.in-Some.field-0-1.now (c.from.ensures ∙ t.2 0) (t.3 0) fits
    c.fill.new.self _ p.0 c.in_err-fill.ensures l.invariant.few)

pub loop-from-preserved : goal.loop-from-preserved
loop-from-preserved c =
    let a = c.args in
    let l = c.loop-from in
    let t = zip_turn a.low.now a.high.now l.yielded c.into_iter-from-iterator.result l.from-iterator c.next.new.self c.next.result (cc) (cc)
    l.yielded_by _ c.in-Some.is c.next.ensures.steps in
    let fits : c.from.result ≤ greatest = omega (arith, c.from.ensures, t.2 0, c.type_inv.low (length l.yielded)) in
    let high-fits : c.from-next.result ≤ greatest = omega (arith, c.from-next.ensures, t.3 0, c.type_inv.high (length l.yielded)) in
    let w = c.in_ok-fill.ensures in
    let more = length-append l.yielded ((c.in-Some.field-0-0, c.in-Some.field-0-1) ∷ []) in
    record {
      fits = omega arith;
      few = omega (arith, more, w.adds, l.invariant.few);
      gapped = kept a.low.now a.high.now c.requires l.next (length l.yielded) l.set l.invariant.gapped t.0
          c.from.result c.from-next.result (c.from.ensures ∙ t.2 0) (c.from-next.ensures ∙ t.3 0)
          fits c.fill.new.self _ w high-fits _ more;
    }

pub fill-requires-2-clause-filled : goal.fill-requires-2-clause-filled
fill-requires-2-clause-filled c = let l = c.loop-from in filled c.args.low.now c.args.high.now c.requires l.next (length l.yielded) l.set l.invariant.gapped

pub returns-in_err-fill-2 : goal.returns-in_err-fill-2
returns-in_err-fill-2 c =
    let a = c.args in
    let l = c.loop-from in
    let e = zip_end a.low.now a.high.now l.yielded c.into_iter-from-iterator.result l.from-iterator c.next.new.self c.next.result (cc) (cc)
    l.yielded_by c.in-None.is c.next.ensures.steps in
    let all = all_passed a.low.now a.high.now c.requires l.next (length l.yielded) l.set l.invariant.gapped e in
    let p = err_from_is_err_and c.from_residual-in_err-fill-2.result c.from_residual-in_err-fill-2.ensures.1 in
    rw p.1 (full_end a.low.now a.high.now c.requires l.next (length l.yielded) l.set l.invariant.gapped all l.invariant.fits
    c.fill-2.new.self _ p.0 c.in_err-fill-2.ensures
    (omega (arith, l.invariant.few, e)))

pub returns : goal.returns
returns c =
    let a = c.args in
    let l = c.loop-from in
    let e = zip_end a.low.now a.high.now l.yielded c.into_iter-from-iterator.result l.from-iterator c.next.new.self c.next.result (cc) (cc)
    l.yielded_by c.in-None.is c.next.ensures.steps in
    let all = all_passed a.low.now a.high.now c.requires l.next (length l.yielded) l.set l.invariant.gapped e in
    made_end a.low.now a.high.now c.requires l.next (length l.yielded) l.set l.invariant.gapped all l.invariant.fits
    c.fill-2.new.self _ c.in_ok-fill-2.ensures
