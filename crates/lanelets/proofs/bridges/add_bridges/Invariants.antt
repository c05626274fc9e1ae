use Rattle.std.proofs.Common.{drop}
use Rattle.spot_terms.specs.Cells.{bridges_from}
use Rattle.lanelets.specs.Made.{IsPlaced}
use Rattle.lanelets.proofs.Adding.{IsAlong}
use Rattle.lanelets.proofs.bridges.add_bridges.Given as goal

abbrev pub invariant-loop-e : goal.invariant-loop-e
invariant-loop-e l = IsAlong (IsPlaced l.lanes.entries) (bridges_from l.lanes.entries 0 l.lanes.entries) (bridges_from l.lanes.entries l.e (drop l.e l.lanes.entries)) l.initial.made.items l.made.items
