use Rattle.std.proofs.Common.{◌∙◌, sym}
use Rattle.spot_terms.specs.Cells.{Lane}
use Rattle.lanelets.proofs.StepLists.{joined_is}
use Rattle.lanelets.proofs.ahead.is_joined.Goals as goal

pub returns : goal.returns
returns c =
    let l : Lane = (c.lane_at.result.0, c.lane_at.result.1.now) in
    let m : Lane = (c.lane_at-2.result.0, c.lane_at-2.result.1.now) in
    let j = joined_is c.args.lanes.now.entries c.args.e c.args.f l m c.last_portal.result c.first_portal.result c.lane_at.ensures.is c.lane_at-2.ensures.is (c.last_portal.ensures.is l.0) (c.first_portal.ensures.is m.0) in
    (λ t. j.0 (sym c.is_same_portal.ensures ∙ t), λ a. c.is_same_portal.ensures ∙ j.1 a)
