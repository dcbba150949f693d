-- The report in a text of its own, and from there into the text that is lent.
use Rattle.std.proofs.Common.{◌∙◌, ap, length}
use Rattle.report.proofs.Answers.{short, handed}
use Rattle.report.proofs.report.Goals as goal

pub returns-then-text-n-clause-answer : goal.returns-then-text-n-clause-answer
returns-then-text-n-clause-answer c =
    rw c.at.ensures (short _ _ (c.len-n.ensures.value ∙ ap length c.write_report.ensures.text) c.args.text.now c.if-text-n.true).0

pub returns-then-text-n-clause-text : goal.returns-then-text-n-clause-text
returns-then-text-n-clause-text c =
    (short _ _ (c.len-n.ensures.value ∙ ap length c.write_report.ensures.text) c.args.text.now c.if-text-n.true).1

pub returns-clause-answer : goal.returns-clause-answer
returns-clause-answer c =
    (handed _ _ (c.len-n.ensures.value ∙ ap length c.write_report.ensures.text) c.args.text.now c.if-text-n.false).0

pub returns-clause-text : goal.returns-clause-text
returns-clause-text c =
    rw (c.copy_from_slice.ensures.after, c.as_slice.ensures.value, c.write_report.ensures.text)
    (handed _ _ (c.len-n.ensures.value ∙ ap length c.write_report.ensures.text) c.args.text.now c.if-text-n.false).1
