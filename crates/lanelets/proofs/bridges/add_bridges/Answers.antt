use Rattle.std.proofs.Common.{◌+◌, ◌<◌, ◌≤◌, length, refl, arith}
use Rattle.lanelets.specs.Bridges.{bridges_of}
use Rattle.lanelets.specs.Made.{IsPlaced}
use Rattle.lanelets.proofs.Adding.{along_step, along_end}
use Rattle.lanelets.proofs.BridgeLists.{bridges_step, bridges_end}
use Rattle.lanelets.proofs.bridges.add_bridges.Goals as goal
use Rattle.spot_terms.proofs.ItemPlaces.{item_at}

pub add_bridges_from-requires-clause-after : goal.add_bridges_from-requires-clause-after
add_bridges_from-requires-clause-after c = c.requires.links.after.each c.loop-e.e c.list_at.result.now (rw c.deref.ensures.value at c.list_at.ensures)

pub loop-e-preserved : goal.loop-e-preserved
loop-e-preserved c =
    let lanes = c.args.lanes.now.entries in
    let low : c.loop-e.e < length lanes = omega arith in
    let (l, h) = item_at lanes c.loop-e.e low in
    along_step (IsPlaced lanes) _ _ (bridges_of lanes c.loop-e.e) _ c.args.made.now.items c.loop-e.made.items c.add_bridges_from.new.made.items c.loop-e.invariant (bridges_step c.loop-e.e (c.loop-e.e + 1) lanes l refl h) c.in_ok-add_bridges_from.ensures

pub returns : goal.returns
returns c =
    let past : length c.args.lanes.now.entries ≤ c.loop-e.e = omega arith in
    along_end (IsPlaced c.args.lanes.now.entries) _ _ c.args.made.now.items c.loop-e.made.items c.loop-e.invariant (bridges_end c.loop-e.e c.args.lanes.now.entries past)
