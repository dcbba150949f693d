-- The header, and the lines below it or the refusal.
use Rattle.std.proofs.Common.{◌∙◌, ap, ◌++◌}
use Rattle.model.specs.Text.{bytes}
use Rattle.report.proofs.Parts.{report_is, whole_fine, whole_refused}
use Rattle.report.proofs.write_report.Goals as goal

pub returns-in-Err-clause-text : goal.returns-in-Err-clause-text
returns-in-Err-clause-text c =
    let header = c.push_text.ensures ∙ ap (λ t. t ++ bytes "spoof report 1\n") c.requires in
    rw (report_is c.args.book.now c.args.plan.now _) (whole_refused _ _ header _ _ _ c.in-Err.ensures.body c.put_refusal.ensures)

pub returns-in_default-clause-text : goal.returns-in_default-clause-text
returns-in_default-clause-text c =
    let header = c.push_text.ensures ∙ ap (λ t. t ++ bytes "spoof report 1\n") c.requires in
    rw (report_is c.args.book.now c.args.plan.now _) (whole_fine _ _ header _ _ c.in_default.ensures.body)
