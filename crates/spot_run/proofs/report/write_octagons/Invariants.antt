use Rattle.std.proofs.Common.{drop, map}
use Rattle.spot_terms.specs.Report.{report_text}
use Rattle.spot_io.proofs.Writing.{WritesUpTo}
use Rattle.spot_run.specs.Lines.{octagon_line}
use Rattle.spot_run.proofs.report.write_octagons.Given as goal

-- the lines so far are written
abbrev pub invariant-loop-id : goal.invariant-loop-id
invariant-loop-id g l =
    WritesUpTo g.K.Sink l.fn.sink l.sink (report_text (map octagon_line l.octagons)) (report_text (map octagon_line (drop l.id-index l.octagons)))
