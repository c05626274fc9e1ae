use Rattle.std.proofs.Common.{arith, refl, FitsSigned, w64, to_z-of_z}
use Rattle.spot_terms.specs.Pieces.{Hits}
use Rattle.participants.specs.Pieces.{pieces_at}
use Rattle.participants.proofs.Besides.{more_beside}
use Rattle.participants.proofs.prediction.PredictionOccupied.next.Goals as goal

pub loop-piece-preserved : goal.loop-piece-preserved
loop-piece-preserved c = record {
  from = let k = c.loop-piece.invariant.from in omega (arith, k);
  within = omega (arith, c.loop-piece-test.true, c.pieces-count.ensures);
  beside = more_beside (Hits (pieces_at c.args.self.now c.args.step)) _ _ c.args.from c.loop-piece.piece (c.if-is_beside.ensures refl) c.loop-piece.invariant.beside;
}

pub returns-else-is_beside-clause-beside : goal.returns-else-is_beside-clause-beside
returns-else-is_beside-clause-beside c =
    let f0 : FitsSigned w64 c.args.left = c.ranges.left in
    let f1 : FitsSigned w64 c.args.right = c.ranges.right in
    simp to_z-of_z at c.loop-piece.invariant.beside

pub returns-after-loop-piece-clause-beside : goal.returns-after-loop-piece-clause-beside
returns-after-loop-piece-clause-beside c =
    let f0 : FitsSigned w64 c.args.left = c.ranges.left in
    let f1 : FitsSigned w64 c.args.right = c.ranges.right in
    simp to_z-of_z at c.loop-piece.invariant.beside
