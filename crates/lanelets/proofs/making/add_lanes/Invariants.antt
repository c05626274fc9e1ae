use Rattle.std.proofs.Common.{drop}
use Rattle.spot_terms.specs.Cells.{lane_cells}
use Rattle.lanelets.specs.Made.{IsPlaced}
use Rattle.lanelets.proofs.Adding.{IsAlong}
use Rattle.lanelets.proofs.making.add_lanes.Given as goal

abbrev pub invariant-loop-e : goal.invariant-loop-e
invariant-loop-e l = IsAlong (IsPlaced l.lanes.entries) (lane_cells 0 l.lanes.entries) (lane_cells l.e (drop l.e l.lanes.entries)) l.initial.made.items l.made.items
