use Rattle.std.proofs.Common.{FitsSigned, w64, to_z-of_z, subst, Option, List}
use Rattle.std.specs.Prelude.{slice_get}
use Rattle.std.specs.Borrow.{Bor}
use Rattle.spot_terms.specs.Pieces.{octagon, cut_octagon}
use Rattle.spot_terms.specs.declared.plain.Pt.{Pt}
use Rattle.carve.proofs.PieceRuns.{run_at}
use Rattle.participants.specs.Pieces.{pieces_at, IsFound}
use Rattle.participants.proofs.prediction.PredictionOccupied.run.Goals as goal

pub returns-in-Some : goal.returns-in-Some
returns-in-Some c =
    let f0 : FitsSigned w64 c.args.y0 = c.ranges.y0 in
    let f1 : FitsSigned w64 c.args.y1 = c.ranges.y1 in
    let found = subst (λ (o : Option (Bor (List Pt))). IsFound (slice_get (pieces_at c.args.self.now c.args.step) c.args.piece) c.parts.result.0.now o) c.in-Some.is c.parts.ensures.piece in
    run_at (pieces_at c.args.self.now c.args.step) c.args.piece (cut_octagon c.parts.result.0.now.n c.in-Some.polygon.now) found c.args.y0 c.args.y1 _ _ c.cut_run.result (to_z-of_z f0) (to_z-of_z f1) c.cut_run.ensures

pub returns-in-None : goal.returns-in-None
returns-in-None c =
    let f0 : FitsSigned w64 c.args.y0 = c.ranges.y0 in
    let f1 : FitsSigned w64 c.args.y1 = c.ranges.y1 in
    let found = subst (λ (o : Option (Bor (List Pt))). IsFound (slice_get (pieces_at c.args.self.now c.args.step) c.args.piece) c.parts.result.0.now o) c.in-None.is c.parts.ensures.piece in
    run_at (pieces_at c.args.self.now c.args.step) c.args.piece (octagon c.parts.result.0.now.n) found c.args.y0 c.args.y1 _ _ c.run.result (to_z-of_z f0) (to_z-of_z f1) c.run.ensures
