use Rattle.std.proofs.Common.{FitsSigned, w64, to_z-of_z}
use Rattle.replay_sets.proofs.recorded.RecordedOccupied.rows.Goals as goal

pub returns-clause-sum : goal.returns-clause-sum
returns-clause-sum c =
    let f : FitsSigned w64 c.args.g = c.ranges.g in
    simp to_z-of_z at c.rows.ensures.sum
