use Rattle.std.proofs.Common.{◌+◌, ◌≤◌, drop, length}
use Rattle.spot_terms.specs.Participants.{starting}
use Rattle.spot_terms.specs.Report.{report_text}
use Rattle.spot_io.proofs.Writing.{WritesUpTo}
use Rattle.spot_run.specs.Lines.{obstacle_lines}
use Rattle.spot_run.proofs.report.write_obstacles.Given as goal

-- the lines so far are written, and there are participants for the obstacles that are left
abbrev pub invariant-loop-m : goal.invariant-loop-m
invariant-loop-m g l = record {
  enough : l.next + length (starting (drop l.m-index l.movers)) ≤ length l.participants;
  lines : WritesUpTo g.K.Sink l.fn.sink l.sink (report_text (obstacle_lines l.movers l.participants)) (report_text (obstacle_lines (drop l.m-index l.movers) (drop l.next l.participants)));
}
