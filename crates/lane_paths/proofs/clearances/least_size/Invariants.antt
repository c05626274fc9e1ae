use Rattle.lane_paths.proofs.LeastClearances.{IsLeastSizeSoFar}
use Rattle.lane_paths.proofs.clearances.least_size.Given as goal

abbrev pub invariant-loop-u : goal.invariant-loop-u
invariant-loop-u l = IsLeastSizeSoFar l.vectors l.u-index l.least
