use Rattle.std.proofs.Common.{length}
use Rattle.lanelets.specs.Links.{IsFollowed}
use Rattle.lanelets.specs.Listing.{AreColumns}
use Rattle.lanelets.proofs.LinkLists.{followed_low, follower_within}
use Rattle.lanelets.proofs.RowLists.{lists_of, rows_within}
use Rattle.lanelets.proofs.links.links_of.Goals as goal

pub columns_of-requires-clause-within : goal.columns_of-requires-clause-within
columns_of-requires-clause-within c =
    let lanes = c.args.lanes.now.entries in
    rw (c.deref.ensures.value, c.lane_count.ensures.is) (rows_within (λ f e. IsFollowed lanes e f) (length lanes) (length lanes) c.in_ok-sources.sources.items c.in_ok-sources.ensures (λ f e. followed_low lanes e f))

pub returns : goal.returns
returns c =
    let lanes = c.args.lanes.now.entries in
    let turned : AreColumns c.in_ok-sources.sources.items (length lanes) c.in_ok-after.after.items = rw (c.deref.ensures.value, c.lane_count.ensures.is) at c.in_ok-after.ensures in
    record {
      sources = c.in_ok-sources.ensures;
      after = lists_of (λ f e. IsFollowed lanes e f) (length lanes) (length lanes) c.in_ok-sources.sources.items c.in_ok-after.after.items c.in_ok-sources.ensures (follower_within lanes) turned;
    }
