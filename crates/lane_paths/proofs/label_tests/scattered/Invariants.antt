use Rattle.std.proofs.Common.{◌*◌, ◌≤◌}
use Rattle.std.specs.List.{AllByRecursion}
use Rattle.spot_terms.specs.Cells.{Lane}
use Rattle.spot_terms.specs.Ranges.{IsLaneInRange, lanes_size}
use Rattle.lane_paths.proofs.label_tests.scattered.Given as goal

abbrev pub invariant-loop-index : goal.invariant-loop-index
invariant-loop-index l = record {
  each : AllByRecursion (λ (e : Lane). IsLaneInRange e.1) l.lanes.entries;
  few : lanes_size l.lanes.entries ≤ 40 * l.index;
}
