-- `sweep::Rule::keep_piece` meets its contract: what the conditions are true for leaves, and anything else is pushed. Assumes nothing.
use Rattle.std.proofs.Common.{◌≡◌, ◌+◌, arith, rules}
use Rattle.std.proofs.lemmas.Result.{err_from_is_err_and}
use Rattle.model.specs.Limits.{spans_most}
use Rattle.matching.specs.declared.Truth.TheVariants.{Yes}
use Rattle.sweep.specs.Sweep.{value_for}
use Rattle.sweep.proofs.Pieces.{piece_out, piece_in, no_room_on}
use Rattle.sweep.proofs.Rule.keep_piece.Goals as goal

pub returns-in_err-push : goal.returns-in_err-push
returns-in_err-push c =
    let a = c.args in
    let p = err_from_is_err_and c.from_residual.result c.from_residual.ensures.1 in
    let not_yes : c.ask-held.result.value ≡ Yes → ⊥ = search rules in
    rw p.1 (record {
      ahead = tt;
      filled = tt;
      grown = λ cs w P h same. no_room_on spans_most P (c.min-last.result + 1) (a.high + 1) (omega (arith, c.min-last.ensures)) (c.in_err-push.ensures.grown P h
          (piece_in (value_for a.self.now.port cs) a.x a.high c.min-last.result c.ask-held.result (c.ask-held.ensures.value cs w) c.min-last.ensures P same not_yes));
    })

pub returns-else-ne : goal.returns-else-ne
returns-else-ne c =
    let a = c.args in
    let is_yes : c.ask-held.result.value ≡ Yes = search rules in
    record {
      ahead = (omega (arith, c.ask-held.ensures.ahead, c.min-last.ensures, c.requires.rising), omega (arith, c.min-last.ensures));
      filled = c.requires.filled;
      grown = λ cs w P h same. piece_out (value_for a.self.now.port cs) a.x a.high c.min-last.result c.ask-held.result (c.ask-held.ensures.value cs w)
          c.min-last.ensures P same a.left.now c.requires.rising is_yes h;
    }
