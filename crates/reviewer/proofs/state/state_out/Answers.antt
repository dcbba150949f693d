-- `reviewer::state::state_out` meets its contract: its three parts fill the words. Assumes nothing.
use Rattle.std.proofs.Common.{◌≡◌, [], ◌∷◌, ◌++◌, ◌∙◌, ap, ap₂, arith, length}
use Rattle.model.specs.Limits.{spans_most}
use Rattle.review.specs.States.{phase_of}
use Rattle.reviewer.specs.Words.{word}
use Rattle.reviewer.specs.StateWords.{state_head, phase_word, rule_word, source_word}
use Rattle.reviewer.proofs.Slots.{parts_are}
use Rattle.reviewer.proofs.state.state_out.Goals as goal

pub returns : goal.returns
returns c =
    let st = c.args.state.now in
    let written = c.copy_from_slice.ensures.after in
    let low = c.copy_from_slice-2.ensures.after in
    let high = c.copy_from_slice-3.ensures.after in
    let p = phase_of st.phase in
    let head : c.copy_from_slice.new.self ≡ st.port ∷ word st.place ∷ phase_word p ∷ rule_word p ∷ source_word p ∷ word st.suspects.count ∷ [] =
    written ∙ rw (c.word.ensures, c.word-count.ensures, c.phase_out.ensures) in
    parts_are c.args.words.now _ _ _ state_head spans_most (ap length head) (omega (arith, ap length low)) (omega (arith, ap length high)) (omega arith)
    ∙ ap₂ ◌++◌ head (ap₂ ◌++◌ low high)
