use Rattle.participants.specs.Pieces.{pieces_at}
use Rattle.participants.proofs.FoundPieces.{range_found}
use Rattle.participants.proofs.prediction.PredictionOccupied.span.Goals as goal

pub returns : goal.returns
returns c = range_found (pieces_at c.args.self.now c.args.step) c.args.piece c.outline-bounds.result.0.now c.outline-bounds.result.1 c.span_of.result c.outline-bounds.ensures.piece c.span_of.ensures.piece
