use Rattle.std.proofs.Common.{length}
use Rattle.lanelets.specs.Listing.{AreColumns}
use Rattle.lanelets.specs.Nearby.{AreListed}
use Rattle.lanelets.proofs.RowLists.{lists_of, rows_within}
use Rattle.lanelets.proofs.nearby.neighbours_of.Goals as goal
use Rattle.spot_terms.proofs.ItemPlaces.{got_below}

pub columns_of-requires-clause-within : goal.columns_of-requires-clause-within
columns_of-requires-clause-within c =
    let lanes = c.args.lanes.now.entries in
    rw (c.deref.ensures.value, c.lane_count.ensures.is) (rows_within (λ f e. AreListed lanes e f) (length lanes) (length lanes) c.in_ok-rows.rows.items c.in_ok-rows.ensures (λ f e h. got_below lanes e h.0 h.2))

pub returns : goal.returns
returns c =
    let lanes = c.args.lanes.now.entries in
    let turned : AreColumns c.in_ok-rows.rows.items (length lanes) c.in_ok-lists.lists.items = rw (c.deref.ensures.value, c.lane_count.ensures.is) at c.in_ok-lists.ensures in
    lists_of (λ f e. AreListed lanes e f) (length lanes) (length lanes) c.in_ok-rows.rows.items c.in_ok-lists.lists.items c.in_ok-rows.ensures (λ f e h. got_below lanes f h.1 h.3) turned
