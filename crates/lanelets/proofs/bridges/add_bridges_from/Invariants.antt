use Rattle.std.proofs.Common.{drop}
use Rattle.std.specs.Prelude.{Some}
use Rattle.lanelets.specs.Made.{IsPlaced}
use Rattle.lanelets.proofs.Adding.{IsAlong}
use Rattle.lanelets.proofs.BridgeLists.{bridges_over}
use Rattle.lanelets.proofs.bridges.add_bridges_from.Given as goal

abbrev pub invariant-loop-to : goal.invariant-loop-to
invariant-loop-to l = IsAlong (IsPlaced l.lanes.entries) (bridges_over l.lanes.entries l.from (Some l.entry) l.after) (bridges_over l.lanes.entries l.from (Some l.entry) (drop l.to-index l.after)) l.initial.made.items l.made.items
