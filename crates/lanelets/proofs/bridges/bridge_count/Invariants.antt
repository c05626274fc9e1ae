use Rattle.std.proofs.Common.{◌≡◌, ◌≤◌, ◌+◌, ◌*◌, length, drop}
use Rattle.spot_terms.specs.Cells.{bridges_from}
use Rattle.lanelets.proofs.bridges.bridge_count.Given as goal

abbrev pub invariant-loop-e : goal.invariant-loop-e
invariant-loop-e l = (l.count + length (bridges_from l.lanes.entries l.e (drop l.e l.lanes.entries)) ≡ length (bridges_from l.lanes.entries 0 l.lanes.entries)) × (l.count ≤ 67108864 * l.e)
