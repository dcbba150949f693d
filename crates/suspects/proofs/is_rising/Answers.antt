-- `suspects::is_rising` meets its contract. The invariant: what is left of the test decides it. Assumes nothing.
use Rattle.std.proofs.Common.{◌+◌, ◌∷◌, [], inl, inr, ⊎_elim, sym, ◌∙◌, ap₂, arith, length, length-append}
use Rattle.std.proofs.lemmas.Slice.Zip.{zip_turn, zip_end}
use Rattle.model.specs.Slices.{rising}
use Rattle.suspects.proofs.InWriting.{from, not_rising_here, rising_on, rising_end}
use Rattle.suspects.proofs.is_rising.Goals as goal

pub returns-then-from-least : goal.returns-then-from-least
returns-then-from-least c =
    let a = c.args in
    let l = c.loop-from in
    let t = zip_turn a.low.now a.high.now l.yielded c.into_iter-from-iterator.result l.from-iterator c.next.new.self c.next.result (cc) (cc)
    l.yielded_by _ c.in-Some.is c.next.ensures.steps in
    sym (not_rising_here a.low.now a.high.now (length l.yielded) l.least l.invariant t.0 t.1 c.in-Some.field-0-0.now c.in-Some.field-0-1.now (t.2 0) (t.3 0)
    (⊎_elim (λ h. inl (omega (arith, c.from.ensures))) (λ h. inr h.1) c.then-from-least.either))

pub loop-from-preserved : goal.loop-from-preserved
loop-from-preserved c =
    let a = c.args in
    let l = c.loop-from in
    let t = zip_turn a.low.now a.high.now l.yielded c.into_iter-from-iterator.result l.from-iterator c.next.new.self c.next.result (cc) (cc)
    l.yielded_by _ c.in-Some.is c.next.ensures.steps in
    rising_on a.low.now a.high.now (length l.yielded) l.least l.invariant t.0 t.1 c.in-Some.field-0-0.now c.in-Some.field-0-1.now (t.2 0) (t.3 0)
    (omega (arith, c.from.ensures)) c.if-to-from.false
    ∙ ap₂ (λ h k. rising (h + 2) (from a.low.now a.high.now k)) (sym c.from-least.ensures)
    (sym (length-append l.yielded ((c.in-Some.field-0-0, c.in-Some.field-0-1) ∷ [])))

pub returns : goal.returns
returns c =
    let a = c.args in
    let l = c.loop-from in
    sym (rising_end a.low.now a.high.now (length l.yielded) l.least l.invariant
    (zip_end a.low.now a.high.now l.yielded c.into_iter-from-iterator.result l.from-iterator c.next.new.self c.next.result (cc) (cc)
    l.yielded_by c.in-None.is c.next.ensures.steps))
