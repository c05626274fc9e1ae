use Rattle.std.proofs.Common.{◌-◌}
use Rattle.area_report.proofs.Totals.{StandsCounted}
use Rattle.area_report.proofs.total.total_of.Given as goal

-- the sets of the steps up to the one at which the run stands are counted
abbrev pub invariant-loop-run : goal.invariant-loop-run
invariant-loop-run g l = StandsCounted g.O.Occupied.count g.O.Occupied.hits l.fn.run l.run l.sets

abbrev pub decreases-loop-run : goal.decreases-loop-run
decreases-loop-run g l = l.run.steps - l.run.at
