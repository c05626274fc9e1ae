use Rattle.std.proofs.Common.{FitsSigned, w64, to_z-of_z}
use Rattle.spot_terms.specs.Pieces.{disc}
use Rattle.replay_sets.specs.Discs.{pieces_at}
use Rattle.carve.proofs.PieceRuns.{run_at}
use Rattle.replay_sets.proofs.recorded.RecordedOccupied.run.Goals as goal

pub returns : goal.returns
returns c =
    let f0 : FitsSigned w64 c.args.y0 = c.ranges.y0 in
    let f1 : FitsSigned w64 c.args.y1 = c.ranges.y1 in
    run_at (pieces_at c.args.self.now c.args.step) c.args.piece (disc c.disc-d.result.p c.disc-d.result.r) c.disc-d.ensures.piece c.args.y0 c.args.y1 _ _ c.run_of.result (to_z-of_z f0) (to_z-of_z f1) c.run_of.ensures
