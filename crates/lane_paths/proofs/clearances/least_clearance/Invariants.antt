use Rattle.lane_paths.proofs.LeastClearances.{IsLeastSoFar}
use Rattle.lane_paths.proofs.clearances.least_clearance.Given as goal

abbrev pub invariant-loop-i : goal.invariant-loop-i
invariant-loop-i l = IsLeastSoFar l.vectors l.i l.least
