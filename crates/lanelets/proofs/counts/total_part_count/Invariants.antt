use Rattle.std.proofs.Common.{◌≡◌, ◌≤◌, ◌+◌, ◌*◌, length, drop}
use Rattle.spot_terms.specs.Cells.{lane_cells}
use Rattle.spot_terms.specs.Ranges.{lanes_size}
use Rattle.lanelets.proofs.counts.total_part_count.Given as goal

abbrev pub invariant-loop-e : goal.invariant-loop-e
invariant-loop-e l = (l.count + length (lane_cells l.e (drop l.e l.lanes.entries)) ≡ length (lane_cells 0 l.lanes.entries)) × (l.count + 14200000 * lanes_size (drop l.e l.lanes.entries) ≤ 952945868800000)
