use Rattle.std.proofs.Common.{◌≤◌, ℕ, List, length, take, refl, arith, subst}
use Rattle.std.proofs.lemmas.List.{take_all}
use Rattle.spot_terms.specs.Cells.{Lane}
use Rattle.spot_terms.proofs.ListLemmas.{pairwise_push}
use Rattle.lanelets.specs.Links.{ArePlaces}
use Rattle.lanelets.proofs.Places.{take_at}
use Rattle.lanelets.proofs.nearby.side_rows.Goals as goal

pub loop-e-preserved : goal.loop-e-preserved
loop-e-preserved c =
    let lanes = c.args.lanes.now.entries in
    let l : Lane = (c.lane_at.result.0, c.lane_at.result.1.now) in
    let more = take_at lanes c.loop-e.e _ l refl c.lane_at.ensures.is in
    let places : ArePlaces lanes l.1.sides c.in_ok-places_of.field-0 = subst (λ (ids : List ℕ). ArePlaces lanes ids c.in_ok-places_of.field-0) c.list.ensures c.in_ok-places_of.ensures in
    rw (more, c.in_ok-push.ensures.items) (pairwise_push (λ (k : Lane) row. ArePlaces lanes k.1.sides row) (take c.loop-e.e lanes) c.loop-e.rows.items l c.in_ok-places_of.field-0 c.loop-e.invariant places)

pub returns : goal.returns
returns c =
    let past : length c.args.lanes.now.entries ≤ c.loop-e.e = omega arith in
    let all = take_all c.loop-e.e c.args.lanes.now.entries past in rw all at c.loop-e.invariant
