-- `matching::eval_conditions` meets its contract. Assumes nothing.
use Rattle.std.proofs.Common.{◌≡◌, ◌+◌, refl, arith, rules}
use Rattle.matching.specs.declared.Truth.TheVariants.{No}
use Rattle.matching.proofs.Conditions.{seen_none, standing_here, seen_more, seen_no}
use Rattle.matching.proofs.eval_conditions.Goals as goal

pub loop-word-init : goal.loop-word-init
loop-word-init c = let a = c.args in λ cs w. seen_none cs a.a a.source a.answers.now _ c.ever-held.ensures (omega (arith, c.ranges.source))

pub eval_condition-requires : goal.eval_condition-requires
eval_condition-requires c = let p = c.requires in standing_here _ _ _ p.are _ (omega arith) _ refl

pub returns-then-eq : goal.returns-then-eq
returns-then-eq c = let a = c.args in let l = c.loop-word in let r = c.eval_condition in let b = c.bitand-held in
    let z : b.result.value ≡ No = search rules in
    λ cs w. seen_no cs (l.word-index + 1) a.a a.source a.answers.now b.result
    (seen_more _ _ cs w l.word-index (omega arith) a.a a.source a.answers.now l.held (l.invariant cs w) _ refl r.result b.result r.ensures b.ensures) z

pub loop-word-preserved : goal.loop-word-preserved
loop-word-preserved c = let a = c.args in let l = c.loop-word in let r = c.eval_condition in let b = c.bitand-held in
    λ cs w. seen_more _ _ cs w l.word-index (omega arith) a.a a.source a.answers.now l.held (l.invariant cs w) _ refl r.result b.result r.ensures b.ensures
