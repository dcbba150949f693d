-- Behind the head stand the conditions that are copied so far.
use Rattle.std.proofs.Common.{arith}
use Rattle.unfolding.proofs.Entries.{copied_none, copied_next, copied_all}
use Rattle.unfolding.proofs.write_rule.Goals as goal

pub loop-i-init : goal.loop-i-init
loop-i-init c = let a = c.args in copied_none a.conditions.now a.words.now a.at a.action a.number.0 c.requires

pub loop-i-preserved : goal.loop-i-preserved
loop-i-preserved c =
    let a = c.args in let l = c.loop-i in
    copied_next a.conditions.now a.words.now a.at a.action a.number.0 c.requires l.i l.words l.invariant (omega arith)

pub returns-clause-written : goal.returns-clause-written
returns-clause-written c =
    let a = c.args in let l = c.loop-i in
    copied_all a.conditions.now a.words.now a.at a.action a.number.0 c.requires l.i l.words l.invariant (omega arith)
