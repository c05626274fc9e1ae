use Rattle.std.proofs.Common.{take}
use Rattle.spot_terms.specs.Lists.{Pairwise}
use Rattle.lanelets.specs.Kept.{IsKept}
use Rattle.lanelets.proofs.kept.kept_lanes.Given as goal

abbrev pub invariant-loop-e : goal.invariant-loop-e
invariant-loop-e l = Pairwise IsKept (take l.e l.lanes.entries) l.kept.items
