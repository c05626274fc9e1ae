use Rattle.std.proofs.Common.{to_z-of_z, FitsSigned, w64}
use Rattle.carve.proofs.rows.run_across.Goals as goal

pub returns-in-Some-clause-run : goal.returns-in-Some-clause-run
returns-in-Some-clause-run g c =
    let fits_low : FitsSigned w64 c.args.low = c.ranges.low in
    let fits_high : FitsSigned w64 c.args.high = c.ranges.high in
    simp to_z-of_z at c.run_within.ensures.run
