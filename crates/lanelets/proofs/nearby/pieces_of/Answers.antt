use Rattle.std.proofs.Common.{length}
use Rattle.lanelets.specs.Listing.{AreColumns}
use Rattle.lanelets.specs.Nearby.{HasPieceNumber}
use Rattle.lanelets.specs.Steps.{net_of}
use Rattle.lanelets.proofs.NearbyLaws.{number_low, piece_low}
use Rattle.lanelets.proofs.RowLists.{lists_of, rows_within}
use Rattle.lanelets.proofs.nearby.pieces_of.Goals as goal

pub columns_of-requires-clause-within : goal.columns_of-requires-clause-within
columns_of-requires-clause-within c = rw (c.deref.ensures.value, c.len.ensures.is)
    (rows_within (λ i k. HasPieceNumber c.args.parts.now (net_of c.args.cells.now) i k) (length c.args.cells.now) (length c.args.cells.now) c.in_ok-rows.rows.items c.in_ok-rows.ensures (number_low c.args.cells.now c.args.parts.now))

pub returns : goal.returns
returns c =
    let turned : AreColumns c.in_ok-rows.rows.items (length c.args.cells.now) c.in_ok-pieces.pieces.items = rw (c.deref.ensures.value, c.len.ensures.is) at c.in_ok-pieces.ensures in
    lists_of (λ i k. HasPieceNumber c.args.parts.now (net_of c.args.cells.now) i k) (length c.args.cells.now) (length c.args.cells.now) c.in_ok-rows.rows.items c.in_ok-pieces.pieces.items c.in_ok-rows.ensures (piece_low c.args.cells.now c.args.parts.now) turned
