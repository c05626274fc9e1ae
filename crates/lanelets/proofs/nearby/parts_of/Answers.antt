use Rattle.std.proofs.Common.{length}
use Rattle.lanelets.specs.Listing.{AreColumns}
use Rattle.lanelets.specs.Steps.{net_of, IsOfLane}
use Rattle.lanelets.proofs.RowLists.{lists_of, rows_within}
use Rattle.lanelets.proofs.StepLists.{lanes_inside, lanes_low}
use Rattle.lanelets.proofs.nearby.parts_of.Goals as goal

pub columns_of-requires-clause-within : goal.columns_of-requires-clause-within
columns_of-requires-clause-within c = rw c.deref.ensures.value
    (rows_within (λ k e. IsOfLane (net_of c.args.cells.now) k e) (length c.args.cells.now) c.args.count c.in_ok-rows.rows.items c.in_ok-rows.ensures.is (lanes_inside c.args.count c.args.cells.now c.requires))

pub returns : goal.returns
returns c =
    let parts : AreColumns c.in_ok-rows.rows.items c.args.count c.in_ok-parts.parts.items = rw c.deref.ensures.value at c.in_ok-parts.ensures in
    lists_of (λ k e. IsOfLane (net_of c.args.cells.now) k e) (length c.args.cells.now) c.args.count c.in_ok-rows.rows.items c.in_ok-parts.parts.items c.in_ok-rows.ensures.is (lanes_low c.args.cells.now) parts
