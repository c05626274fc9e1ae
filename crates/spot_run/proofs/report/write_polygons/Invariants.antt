use Rattle.std.proofs.Common.{drop, map}
use Rattle.spot_terms.specs.Report.{report_text}
use Rattle.spot_io.proofs.Writing.{WritesUpTo}
use Rattle.spot_run.specs.Lines.{polygon_line}
use Rattle.spot_run.proofs.report.write_polygons.Given as goal

-- the lines so far are written
abbrev pub invariant-loop-p : goal.invariant-loop-p
invariant-loop-p g l =
    WritesUpTo g.K.Sink l.fn.sink l.sink (report_text (map (polygon_line l.id) l.polygons)) (report_text (map (polygon_line l.id) (drop l.p-index l.polygons)))
