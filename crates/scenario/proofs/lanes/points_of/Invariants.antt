use Rattle.std.proofs.Common.{take}
use Rattle.scenario.specs.Found.{ArePointsAt}
use Rattle.scenario.proofs.lanes.points_of.Given as goal

abbrev pub invariant-loop-e : goal.invariant-loop-e
invariant-loop-e l = ArePointsAt l.tree (take l.e-index l.elements) l.points.items
