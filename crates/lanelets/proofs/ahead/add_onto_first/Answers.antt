use Rattle.std.proofs.Common.{◌≡◌, ◌<◌, length}
use Rattle.std.specs.Prelude.{Some, slice_get}
use Rattle.spot_terms.proofs.ListLemmas.{all_of}
use Rattle.lanelets.specs.Listing.{Gathers}
use Rattle.lanelets.specs.Steps.{IsJoinedFrom}
use Rattle.lanelets.proofs.StepLists.{onto_first}
use Rattle.lanelets.proofs.ahead.add_onto_first.Goals as goal
use Rattle.spot_terms.proofs.ItemPlaces.{got_below}

pub add_joined-requires-clause-within : goal.add_joined-requires-clause-within
add_joined-requires-clause-within c =
    all_of (λ x. x < length c.args.lanes.now.entries) c.list_at.result.now (λ e i. let followed = (c.requires.links.sources.each c.args.f c.list_at.result.now (rw c.deref.ensures.value at c.list_at.ensures) e).0 i in
    got_below c.args.lanes.now.entries e followed.0 followed.2)

pub returns : goal.returns
returns c =
    let sources : slice_get c.args.links.now.sources.items c.args.f ≡ Some c.list_at.result.now = rw c.deref.ensures.value at c.list_at.ensures in
    let leads : slice_get c.args.joints.now.leads.items c.args.f ≡ Some c.list_at-2.result.now = rw c.deref-3.ensures.value at c.list_at-2.ensures in
    let joined : Gathers (IsJoinedFrom c.args.lanes.now.entries c.list_at.result.now c.args.f c.args.joints.now.ends.items) c.args.row.now c.add_joined.new.row = rw c.deref-2.ensures.value at c.in_ok-add_joined.ensures in
    onto_first c.args.lanes.now.entries c.args.links.now c.args.joints.now c.args.f c.list_at.result.now c.list_at-2.result.now c.args.row.now c.add_joined.new.row c.extend.new.self sources leads joined c.in_ok-extend.ensures
