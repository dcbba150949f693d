-- `suspects::Suspects::push` meets its contract: the last range ends next to what is added, or does not, or there is no slot left. Assumes nothing.
use Rattle.std.proofs.Common.{◌≡◌, ◌+◌, ◌-◌, ◌<◌, ◌⊎◌, inl, inr, arith, refl, get_or}
use Rattle.model.specs.Limits.{spans_most}
use Rattle.suspects.proofs.Grow.{filled_last, filled_new, push_last, push_new, push_full}
use Rattle.suspects.proofs.Suspects.push.Goals as goal
use Rattle.suspects.proofs.Suspects.push.Goals.{else-n-gt0-via-then-n-gt0+else-from, else-n-gt0-via-else-n-gt0}

pub returns-then-from : goal.returns-then-from
returns-then-from c = let a = c.args in let s = a.self.now in record {
  adds = omega arith;
  filled = filled_last s c.requires.filled c.if-n-gt0.true a.to;
  grown = λ P h on. push_last spans_most P s.count a.from a.to s.low s.high h c.requires.rising on c.if-n-gt0.true cc;
}

pub returns-then-n-eq-MAX : goal.returns-then-n-eq-MAX
returns-then-n-eq-MAX c =
    let s = c.args.self.now in
    let far : (s.count ≡ 0) ⊎ ((0 < s.count) × (get_or s.high (s.count - 1) 0 + 1 ≡ c.args.from → ⊥)) = elim c.else-n-gt0.branch [
      | else-n-gt0-via-then-n-gt0+else-from w ↦ inr (w.if-n-gt0.true, λ q. w.if-from.false cc)
      | else-n-gt0-via-else-n-gt0 w ↦ inl (omega arith)
    ] in
    let a = c.args in record {
      adds = (omega arith, refl);
      filled = tt;
      grown = λ P h on. push_full spans_most P s.count a.from a.to s.low s.high h c.requires.rising on far (omega arith);
    }

pub returns : goal.returns
returns c =
    let s = c.args.self.now in
    let far : (s.count ≡ 0) ⊎ ((0 < s.count) × (get_or s.high (s.count - 1) 0 + 1 ≡ c.args.from → ⊥)) = elim c.else-n-gt0.branch [
      | else-n-gt0-via-then-n-gt0+else-from w ↦ inr (w.if-n-gt0.true, λ q. w.if-from.false cc)
      | else-n-gt0-via-else-n-gt0 w ↦ inl (omega arith)
    ] in
    let few : s.count < spans_most = omega (arith, c.requires.filled.slots.fits, c.requires.filled.slots.count, c.if-n-eq-MAX.false) in
    let a = c.args in record {
      adds = omega arith;
      filled = filled_new s c.requires.filled few a.from a.to;
      grown = λ P h on. push_new spans_most P s.count a.from a.to s.low s.high h c.requires.rising on far few;
    }
