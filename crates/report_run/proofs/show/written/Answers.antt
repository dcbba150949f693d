-- The bytes that were written are in the text. Assumes nothing.
use Rattle.std.proofs.Common.{◌≤◌, length, sym}
use lib.Seq.{length-take-le}
use Rattle.report.proofs.Answers.{bytes_given}
use Rattle.report_run.proofs.show.written.Goals as goal
use Rattle.report_run.proofs.show.written.Goals.{In-Ok}

given : (c : In-Ok) → c.in-Ok.n ≤ length c.report.new.text
given c = bytes_given _ _ _ _ _ c.report.ensures.answer c.report.ensures.text c.in-Ok.is

pub slice_bounds-write_all-end : goal.slice_bounds-write_all-end
slice_bounds-write_all-end c = given (goal.at.slice_bounds-write_all-end c).In-Ok

pub slice_bounds-write_all-end-in-Ok : goal.slice_bounds-write_all-end-in-Ok
slice_bounds-write_all-end-in-Ok c = sym (length-take-le _ _ (given (goal.at.slice_bounds-write_all-end-in-Ok c).In-Ok))
