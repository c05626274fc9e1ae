use Rattle.std.proofs.Common.{◌≡◌, ◌≤◌, ◌+◌, length, drop}
use Rattle.std.specs.Prelude.{Some}
use Rattle.lanelets.proofs.BridgeLists.{bridges_over}
use Rattle.lanelets.proofs.bridges.bridge_count_from.Given as goal

abbrev pub invariant-loop-to : goal.invariant-loop-to
invariant-loop-to l = (l.count + length (bridges_over l.lanes.entries l.from (Some l.entry) (drop l.to-index l.after)) ≡ length (bridges_over l.lanes.entries l.from (Some l.entry) l.after)) × (l.count ≤ l.to-index)
