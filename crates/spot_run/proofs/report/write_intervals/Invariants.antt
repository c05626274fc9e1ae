use Rattle.std.proofs.Common.{drop}
use Rattle.spot_terms.specs.Report.{report_text}
use Rattle.spot_io.proofs.Writing.{WritesUpTo}
use Rattle.spot_run.specs.Lines.{octagon_lines}
use Rattle.spot_run.proofs.report.write_intervals.Given as goal

-- the lines so far are written
abbrev pub invariant-loop-i : goal.invariant-loop-i
invariant-loop-i g l =
    WritesUpTo g.K.Sink l.fn.sink l.sink (report_text (octagon_lines l.id 0 l.octagons)) (report_text (octagon_lines l.id l.i (drop l.i l.octagons)))
