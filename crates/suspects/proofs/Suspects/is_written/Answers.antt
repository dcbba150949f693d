-- `suspects::Suspects::is_written` meets its contract. Assumes nothing.
use Rattle.std.proofs.Common.{sym, ◌∙◌, ap, ap₂, true≢false}
use Rattle.model.specs.Slices.{zip, rising, zeros}
use Rattle.suspects.proofs.InWriting.{too_many, not_rising, not_clear, last_clear}
use Rattle.suspects.proofs.Suspects.is_written.Goals as goal
use Rattle.suspects.proofs.Suspects.is_written.Goals.{then-is_rising, else-is_rising}

pub returns-then-self-gt-MAX : goal.returns-then-self-gt-MAX
returns-then-self-gt-MAX c port place phase = too_many c.args.self.now port place phase c.if-self-gt-MAX.true

pub returns-then-is_clear : goal.returns-then-is_clear
returns-then-is_clear c port place phase =
    let r = c.is_rising.ensures ∙ ap₂ (λ a b. rising 0 (zip a b)) c.split_at.ensures.front c.split_at-2.ensures.front in
    elim c.if-is_rising.branch [
      | then-is_rising w ↦ last_clear c.args.self.now port place phase c.if-self-gt-MAX.false (sym w.if-is_rising.true ∙ r)
          (sym c.if-is_clear.true ∙ w.value-is ∙ w.is_clear.ensures ∙ ap zeros c.split_at.ensures.back) _
          (c.is_clear-then-is_clear.ensures ∙ ap zeros c.split_at-2.ensures.back)
      | else-is_rising w ↦ absurd (true≢false (sym c.if-is_clear.true ∙ w.value-is ∙ w.if-is_rising.false))
    ]

pub returns-else-is_clear : goal.returns-else-is_clear
returns-else-is_clear c port place phase =
    let r = c.is_rising.ensures ∙ ap₂ (λ a b. rising 0 (zip a b)) c.split_at.ensures.front c.split_at-2.ensures.front in
    c.if-is_clear.false ∙ elim c.if-is_rising.branch [
      | then-is_rising w ↦ not_clear c.args.self.now port place phase c.if-self-gt-MAX.false (sym w.if-is_rising.true ∙ r)
          (sym c.if-is_clear.false ∙ w.value-is ∙ w.is_clear.ensures ∙ ap zeros c.split_at.ensures.back)
      | else-is_rising w ↦ not_rising c.args.self.now port place phase c.if-self-gt-MAX.false (sym w.if-is_rising.false ∙ r)
    ]
