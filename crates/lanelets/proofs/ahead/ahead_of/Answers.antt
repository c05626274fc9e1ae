use Rattle.std.proofs.Common.{◌≡◌, length, refl, arith}
use Rattle.spot_terms.specs.Network.{IsAhead}
use Rattle.lanelets.specs.Listing.{AreColumns}
use Rattle.lanelets.specs.Steps.{net_of}
use Rattle.lanelets.proofs.RowLists.{lists_of, rows_next, rows_within}
use Rattle.lanelets.proofs.StepLists.{ahead_low}
use Rattle.lanelets.proofs.ahead.ahead_of.Goals as goal

pub loop-d-preserved : goal.loop-d-preserved
loop-d-preserved c =
    rows_next (λ d k. IsAhead c.args.lanes.now.entries (net_of c.args.cells.now) k d) c.loop-d.d _ c.loop-d.rows.items c.push.new.self.items c.in_ok-cells_before.field-0 refl c.in_ok-push.ensures.items c.loop-d.invariant c.in_ok-cells_before.ensures

pub columns_of-requires-clause-within : goal.columns_of-requires-clause-within
columns_of-requires-clause-within c =
    rw (c.deref.ensures.value, c.len.ensures.is) (rows_within (λ d k. IsAhead c.args.lanes.now.entries (net_of c.args.cells.now) k d) c.loop-d.d (length c.args.cells.now) c.loop-d.rows.items c.loop-d.invariant (λ d k a. (ahead_low c.args.lanes.now.entries c.args.cells.now k d a).0))

pub returns : goal.returns
returns c =
    let all : c.loop-d.d ≡ length c.args.cells.now = omega arith in
    let turned : AreColumns c.loop-d.rows.items (length c.args.cells.now) c.in_ok-ahead.ahead.items = rw (c.deref.ensures.value, c.len.ensures.is) at c.in_ok-ahead.ensures in
    lists_of (λ d k. IsAhead c.args.lanes.now.entries (net_of c.args.cells.now) k d) c.loop-d.d (length c.args.cells.now) c.loop-d.rows.items c.in_ok-ahead.ahead.items c.loop-d.invariant
    (λ d k a. let low = (ahead_low c.args.lanes.now.entries c.args.cells.now k d a).1 in omega (arith, low, all)) turned
