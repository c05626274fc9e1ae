use Rattle.std.proofs.Common.{◌≡◌, ◌∙◌, ◌+◌, ◌<◌, ◌≤◌, length, drop, refl, ap, arith, length-append}
use Rattle.spot_terms.specs.Cells.{bridges_from}
use Rattle.lanelets.specs.Bridges.{bridges_of}
use Rattle.lanelets.proofs.BridgeLists.{bridges_step, bridges_end}
use Rattle.lanelets.proofs.bridges.bridge_count.Goals as goal
use Rattle.spot_terms.proofs.ItemPlaces.{item_at}

pub bridge_count_from-count-requires-clause-after : goal.bridge_count_from-count-requires-clause-after
bridge_count_from-count-requires-clause-after c = c.requires.links.after.each c.loop-e.e c.list_at.result.now (rw c.deref.ensures.value at c.list_at.ensures)

pub loop-e-preserved : goal.loop-e-preserved
loop-e-preserved c =
    let lanes = c.args.lanes.now.entries in
    let low : c.loop-e.e < length lanes = omega arith in
    let (l, h) = item_at lanes c.loop-e.e low in
    let both : length (bridges_from lanes c.loop-e.e (drop c.loop-e.e lanes)) ≡ length (bridges_of lanes c.loop-e.e) + length (bridges_from lanes (c.loop-e.e + 1) (drop (c.loop-e.e + 1) lanes)) =
    ap length (bridges_step c.loop-e.e (c.loop-e.e + 1) lanes l refl h) ∙ length-append (bridges_of lanes c.loop-e.e) (bridges_from lanes (c.loop-e.e + 1) (drop (c.loop-e.e + 1) lanes)) in
    let was = c.loop-e.invariant.0 in let small = c.loop-e.invariant.1 in let value = c.bridge_count_from-count.ensures.value in let few = c.bridge_count_from-count.ensures.few in
    (omega (arith, both, was, value), omega (arith, small, few))

pub returns : goal.returns
returns c =
    let past : length c.args.lanes.now.entries ≤ c.loop-e.e = omega arith in
    let none : length (bridges_from c.args.lanes.now.entries c.loop-e.e (drop c.loop-e.e c.args.lanes.now.entries)) ≡ 0 = ap length (bridges_end c.loop-e.e c.args.lanes.now.entries past) in
    let was = c.loop-e.invariant.0 in let small = c.loop-e.invariant.1 in let end = c.loop-e.auto.e-end in let most = c.lane_count-e-end.ensures.few in
    record { value = omega (arith, none, was); few = omega (arith, small, end, most) }
