use Rattle.std.proofs.Common.{◌+◌, ◌≤◌, length, refl, arith}
use Rattle.spot_terms.specs.Cells.{cells_from, Lane}
use Rattle.lanelets.specs.Made.{IsPlaced}
use Rattle.lanelets.proofs.Adding.{along_step, along_end}
use Rattle.lanelets.proofs.LaneCells.{lanes_step, lanes_end, adds_placed, cells_of_lane}
use Rattle.lanelets.proofs.making.add_lanes.Goals as goal

pub loop-e-preserved : goal.loop-e-preserved
loop-e-preserved c =
    let lanes = c.args.lanes.now.entries in
    let l : Lane = (c.lane_at-id.result.0, c.lane_at-id.result.1.now) in
    let net = cells_from c.loop-e.e 0 l.1.left l.1.right in
    let is = c.lane_at-id.ensures.is in
    along_step (IsPlaced lanes) _ _ net _ c.args.made.now.items c.loop-e.made.items c.add_lane.new.made.items c.loop-e.invariant (lanes_step c.loop-e.e (c.loop-e.e + 1) lanes l refl is)
    (adds_placed lanes c.loop-e.e l net c.loop-e.made.items c.add_lane.new.made.items is (cells_of_lane c.loop-e.e 0 l.1.left l.1.right) c.in_ok-add_lane.ensures)

pub returns : goal.returns
returns c =
    let past : length c.args.lanes.now.entries ≤ c.loop-e.e = omega arith in
    along_end (IsPlaced c.args.lanes.now.entries) _ _ c.args.made.now.items c.loop-e.made.items c.loop-e.invariant (lanes_end c.loop-e.e c.args.lanes.now.entries past)
