use Rattle.std.proofs.Common.{◌-◌}
use Rattle.area_report.proofs.RunTexts.{StandsWritten}
use Rattle.area_report.proofs.area.write_area.Given as goal

-- the steps up to the one at which the run stands are written
abbrev pub invariant-loop-run : goal.invariant-loop-run
invariant-loop-run g l = StandsWritten g.O.Occupied.count g.O.Occupied.hits (g.R.Recording.recorded l.fn.recording) g.K.Sink l.fn.run l.run l.fn.sink l.sink

abbrev pub decreases-loop-run : goal.decreases-loop-run
decreases-loop-run g l = l.run.steps - l.run.at
