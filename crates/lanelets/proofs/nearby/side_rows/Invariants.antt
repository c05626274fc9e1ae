use Rattle.std.proofs.Common.{take}
use Rattle.spot_terms.specs.Cells.{Lane}
use Rattle.spot_terms.specs.Lists.{Pairwise}
use Rattle.lanelets.specs.Links.{ArePlaces}
use Rattle.lanelets.proofs.nearby.side_rows.Given as goal

abbrev pub invariant-loop-e : goal.invariant-loop-e
invariant-loop-e l = Pairwise (λ (lane : Lane) row. ArePlaces l.lanes.entries lane.1.sides row) (take l.e l.lanes.entries) l.rows.items
