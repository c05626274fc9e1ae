use Rattle.std.proofs.Common.{length}
use Rattle.spot_terms.specs.Network.{EndsLane}
use Rattle.lanelets.specs.Listing.{AreColumns}
use Rattle.lanelets.specs.Steps.{net_of, LeadsTo}
use Rattle.lanelets.proofs.RowLists.{lists_of, rows_within}
use Rattle.lanelets.proofs.StepLists.{ends_inside, ends_low, leads_inside, leads_low}
use Rattle.lanelets.proofs.steps.joints_of.Goals as goal

pub columns_of-requires-clause-within : goal.columns_of-requires-clause-within
columns_of-requires-clause-within c = rw c.deref.ensures.value
    (rows_within (λ k e. EndsLane (net_of c.args.cells.now) k e) (length c.args.cells.now) c.args.count c.in_ok-ended.ended.items c.in_ok-ended.ensures.is (ends_inside c.args.count c.args.cells.now c.requires))

pub columns_of-requires-2-clause-within : goal.columns_of-requires-2-clause-within
columns_of-requires-2-clause-within c = rw c.deref-2.ensures.value
    (rows_within (λ k f. LeadsTo (net_of c.args.cells.now) k f) (length c.args.cells.now) c.args.count c.in_ok-bridged.bridged.items c.in_ok-bridged.ensures (leads_inside c.args.count c.args.cells.now c.requires))

pub returns : goal.returns
returns c =
    let ends : AreColumns c.in_ok-ended.ended.items c.args.count c.in_ok-ends.ends.items = rw c.deref.ensures.value at c.in_ok-ends.ensures in
    let leads : AreColumns c.in_ok-bridged.bridged.items c.args.count c.in_ok-leads.leads.items = rw c.deref-2.ensures.value at c.in_ok-leads.ensures in
    record {
      ends = lists_of (λ k e. EndsLane (net_of c.args.cells.now) k e) (length c.args.cells.now) c.args.count c.in_ok-ended.ended.items c.in_ok-ends.ends.items c.in_ok-ended.ensures.is (ends_low c.args.cells.now) ends;
      leads = lists_of (λ k f. LeadsTo (net_of c.args.cells.now) k f) (length c.args.cells.now) c.args.count c.in_ok-bridged.bridged.items c.in_ok-leads.leads.items c.in_ok-bridged.ensures (leads_low c.args.cells.now) leads;
    }
