use Rattle.std.proofs.Common.{FitsSigned, w64, to_z-of_z}
use Rattle.spot_terms.specs.Pieces.{Piece}
use Rattle.participants.specs.Pieces.{pieces_at, IsBeside, IsOutlined}
use Rattle.participants.proofs.Besides.{outline_beside}
use Rattle.participants.proofs.prediction.Prediction.is_beside.Goals as goal

pub returns : goal.returns
returns c = λ yes.
    let f0 : FitsSigned w64 c.args.left = c.ranges.left in
    let f1 : FitsSigned w64 c.args.right = c.ranges.right in
    let beside : (piece : Piece) → IsOutlined piece c.outline-bounds.result.0.now c.outline-bounds.result.1 → IsBeside piece c.args.left c.args.right = simp to_z-of_z at (c.is_piece_beside.ensures yes) in
    outline_beside (pieces_at c.args.self.now c.args.step) c.args.piece c.outline-bounds.result.0.now c.outline-bounds.result.1 c.args.left c.args.right c.outline-bounds.ensures.piece beside
