use Rattle.std.proofs.Common.{◌-◌}
use Rattle.area_report.proofs.LastSteps.{HasGone}
use Rattle.area_report.proofs.last.go_to_last.Given as goal

-- the run has gone on
abbrev pub invariant-loop-run : goal.invariant-loop-run
invariant-loop-run g l = HasGone g.O.Occupied.count g.O.Occupied.hits l.fn.run l.run

abbrev pub decreases-loop-run : goal.decreases-loop-run
decreases-loop-run g l = l.run.steps - l.run.at
