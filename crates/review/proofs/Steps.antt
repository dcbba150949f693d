-- One call over a running state, path by path. Assumes nothing.
use Rattle.std.proofs.Common.{◌≡◌, ℕ, ◌+◌, List, length, true, false, refl, sym, ◌∙◌, ap, ap₂, subst, arith, Option, Some, None, Result, Ok, Err}
use mathlib.Core.Option.{some}
use borrow.Author.Tests.{le-leb, lt-leb}
use lib.Dec.{eqb}
use Rattle.model.specs.Limits.{spans_most}
use Rattle.model.specs.Answer.{Answer, fine}
use Rattle.model.specs.Unfolding.{ListRule}
use Rattle.model.specs.Spans.{Spans}
use Rattle.model.specs.Review as model
use Rattle.model.specs.Review.{may_pass, left_after}
use Rattle.model.specs.Slices as slices
use Rattle.model.specs.Slices.{spans_in, after, phase_at, accept_step, drop_step, take_rule}
use Rattle.model.proofs.Tests.{when_cases}
use Rattle.refusals.specs.Refusals.{refusal_at}
use Rattle.refusals.specs.declared.Fault.TheVariants.{TooManyRanges}
use Rattle.book.specs.declared.RuleNumber.{RuleNumber}
use Rattle.suspects.specs.declared.Full.{Full}
use Rattle.suspects.specs.declared.Suspects.{Suspects}
use Rattle.suspects.proofs.Told.{Told}
use Rattle.suspects.proofs.Unique.{holding_is}
use Rattle.sweep.proofs.Answers.{nothing_passes, one_passes}
use Rattle.review.specs.declared.Phase.{Phase}
use Rattle.review.specs.declared.Phase.TheVariants as phase
use Rattle.review.specs.declared.State.{State}
use Rattle.review.specs.States.{phase_of, state_of, next, SteppedBy}
use Rattle.review.specs.Taken.{RuleAt, TakenAs, TakesRule}

module _ (s words : List ℕ) (st : State) (told : Told (state_of st)) (t : Result (Option (RuleNumber × ℕ)) Full) (left : Suspects)
    (takes : TakesRule s words st.place st.port st.suspects t left) (r : ListRule) (at : RuleAt s words st.place r) where
  abbrev ss : Spans
  ss = spans_in (state_of st)

  abbrev As : Result (Option (RuleNumber × ℕ)) Full → Type 0
  As u = TakenAs st.port r ss st.suspects u left

  taken : (u : Result (Option (RuleNumber × ℕ)) Full) → t ≡ u → As u
  taken u e = subst As e (takes r at ss told.rises.top told.rises.rises told.slots)

  abbrev goal : Answer slices.State
  goal = take_rule words (state_of st) (some r)

  -- the state with this phase, at this place, and the suspects that the rule leaves
  abbrev now : Phase → ℕ → State
  now p place = record { phase = p; place = place; port = st.port; suspects = left }

  -- an accept rule leaves the suspects as they are, and they have room
  kept : eqb r.action 0 ≡ true → left_after st.port r ss ≡ ss
  kept q = rw q

  -- by whether it accepts
  by_action : (P : Answer slices.State → Type 0) → (eqb r.action 0 ≡ true → P (accept_step words (state_of st) r (may_pass st.port r ss)))
      → (eqb r.action 0 ≡ false → P (drop_step words (state_of st) r (left_after st.port r ss))) → P goal
  by_action P f g = when_cases P (eqb r.action 0) (accept_step words (state_of st) r (may_pass st.port r ss)) (drop_step words (state_of st) r (left_after st.port r ss)) f g

  -- refused: the lowest that may pass, and nothing moves
  pub step_refuses : (rule : RuleNumber) (source : ℕ) → t ≡ Ok (Some (rule, source)) → SteppedBy {U = Unit {0}} goal st (Ok tt) (now (phase.Refused rule source) st.place)
  step_refuses rule source e = let k = taken (Ok (Some (rule, source))) e in
      one_passes (may_pass st.port r ss) source (sym k.2) (λ y more q low.
      let is : state_of (now (phase.Refused rule source) st.place) ≡ slices.keeping (state_of st) st.place (model.refused r.number y.low) =
      ap (λ x. state_of (record { phase = phase.Refused rule source; place = st.place; port = st.port; suspects = x })) k.3 ∙ ap₂ (λ n x. slices.keeping (state_of st) st.place (model.refused n x)) k.1 low in
      rw (k.0, q) (record { answer = ap fine is; state = is }))

  -- too many ranges, which only a drop rule leaves
  pub step_full : (full : Full) → t ≡ Err full → SteppedBy {U = Unit {0}} goal st (Err (refusal_at TooManyRanges st.place)) (now st.phase st.place)
  step_full full e =
      let k = taken (Err full) e in
      let same : state_of (now st.phase st.place) ≡ state_of st = ap (λ x. state_of (record { phase = st.phase; place = st.place; port = st.port; suspects = x })) k.1 in
      by_action (λ a. SteppedBy {U = Unit {0}} a st (Err (refusal_at TooManyRanges st.place)) (now st.phase st.place))
      (λ q. absurd (omega (arith, k.0, ap length (kept q), told.slots.fits)))
      (λ q. rw (lt-leb (length (left_after st.port r ss)) spans_most k.0) (record { answer = refl; state = same }))

  -- on to the next rule
  module _ (e : t ≡ Ok None) (p : Phase) (is_phase : phase_of p ≡ phase_at words (next words st.place)) where
    k : As (Ok None)
    k = taken (Ok None) e

    moved : state_of (now p (next words st.place)) ≡ slices.written st.port (left_after st.port r ss) (after r st.place) (phase_at words (after r st.place))
    moved =
        ap (λ p. slices.keeping (record { port = st.port; place = st.place; count = left.count; low = left.low; high = left.high; phase = p }) (next words st.place) p) is_phase
        ∙ holding_is (left_after st.port r ss) left k.1 st.port (next words st.place) (phase_at words (next words st.place))
        ∙ ap (λ n. slices.written st.port (left_after st.port r ss) (st.place + 3 + n) (phase_at words (st.place + 3 + n))) (sym at.counted)

    pub step_moves : SteppedBy {U = Unit {0}} goal st (Ok tt) (now p (next words st.place))
    step_moves = by_action (λ a. SteppedBy {U = Unit {0}} a st (Ok tt) (now p (next words st.place)))
        (λ q.
        let is = moved ∙ ap (λ l. slices.written st.port l (after r st.place) (phase_at words (after r st.place))) (kept q)
        ∙ sym (holding_is ss st.suspects told.slots st.port (after r st.place) (phase_at words (after r st.place))) in
        rw (nothing_passes (may_pass st.port r ss) (sym (k.0 q))) (record { answer = ap fine is; state = is }))
        (λ q. rw (le-leb (length (left_after st.port r ss)) spans_most k.1.fits) (record { answer = ap fine moved; state = moved }))
