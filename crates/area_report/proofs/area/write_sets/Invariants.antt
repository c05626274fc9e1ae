use Rattle.std.proofs.Common.{drop, length}
use Rattle.spot_terms.specs.Report.{report_text}
use Rattle.spot_io.proofs.Writing.{WritesUpTo}
use Rattle.area_report.proofs.StepTexts.{set_lines}
use Rattle.area_report.proofs.area.write_sets.Given as goal

-- the sets so far are written
abbrev pub invariant-loop-b : goal.invariant-loop-b
invariant-loop-b g l = WritesUpTo g.K.Sink l.fn.sink l.sink (report_text (set_lines l.step (length l.sets) l.sets)) (report_text (set_lines l.step (length l.sets) (drop l.b-index l.sets)))
