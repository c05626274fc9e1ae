use Rattle.std.proofs.Common.{take, refl}
use Rattle.spot_terms.specs.Cells.{Lane}
use Rattle.spot_terms.proofs.ListLemmas.{pairwise_push}
use Rattle.lanelets.specs.Kept.{IsKept}
use Rattle.lanelets.proofs.Places.{take_at}
use Rattle.lanelets.proofs.kept.kept_lanes.Goals as goal

pub loop-e-preserved : goal.loop-e-preserved
loop-e-preserved c =
    let lanes = c.args.lanes.now.entries in
    let l : Lane = (c.lane_at-id.result.0, c.lane_at-id.result.1.now) in
    let more = take_at lanes c.loop-e.e _ l refl c.lane_at-id.ensures.is in
    rw (more, c.in_ok-push.ensures.items) (pairwise_push IsKept (take c.loop-e.e lanes) c.loop-e.kept.items l c.in_ok-kept_lane.field-0 c.loop-e.invariant c.in_ok-kept_lane.ensures)
