use Rattle.std.proofs.Common.{drop}
use Rattle.spot_terms.specs.Report.{report_text}
use Rattle.spot_io.proofs.Writing.{WritesUpTo}
use Rattle.area_report.specs.Areas.{disc_lines}
use Rattle.area_report.proofs.area.write_discs.Given as goal

-- the discs so far are written
abbrev pub invariant-loop-d : goal.invariant-loop-d
invariant-loop-d g l = WritesUpTo g.K.Sink l.fn.sink l.sink (report_text (disc_lines l.step l.discs)) (report_text (disc_lines l.step (drop l.d-index l.discs)))
