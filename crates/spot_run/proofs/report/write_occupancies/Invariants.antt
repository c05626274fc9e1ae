use Rattle.std.proofs.Common.{drop}
use Rattle.std.specs.List.{flat_map}
use Rattle.spot_terms.specs.Report.{report_text}
use Rattle.spot_io.proofs.Writing.{WritesUpTo}
use Rattle.spot_run.specs.Lines.{occupancy_lines}
use Rattle.spot_run.proofs.report.write_occupancies.Given as goal

-- the lines so far are written
abbrev pub invariant-loop-p : goal.invariant-loop-p
invariant-loop-p g l =
    WritesUpTo g.K.Sink l.fn.sink l.sink (report_text (flat_map occupancy_lines l.participants)) (report_text (flat_map occupancy_lines (drop l.p-index l.participants)))
