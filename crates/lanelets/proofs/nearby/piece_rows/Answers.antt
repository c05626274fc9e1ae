use Rattle.std.proofs.Common.{refl}
use Rattle.lanelets.specs.Nearby.{HasPieceNumber}
use Rattle.lanelets.specs.Steps.{net_of}
use Rattle.lanelets.proofs.RowLists.{rows_next, both_ways}
use Rattle.lanelets.proofs.nearby.piece_rows.Goals as goal

pub loop-c-preserved : goal.loop-c-preserved
loop-c-preserved c =
    rows_next (λ k e. HasPieceNumber c.args.parts.now (net_of c.args.cells.now) k e) c.loop-c.c _ c.loop-c.rows.items c.push.new.self.items c.in_ok-one_or_none.field-0 refl c.in_ok-push.ensures.items c.loop-c.invariant
    (λ x. both_ways _ _ _ (c.in_ok-one_or_none.ensures x) (c.piece_at_cell.ensures x))
