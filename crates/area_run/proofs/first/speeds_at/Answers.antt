use Rattle.std.proofs.Common.{FitsSigned, w64, to_z-of_z, [], ◌∷◌}
use Rattle.spot_terms.specs.Frames.{at}
use Rattle.spot_terms.specs.Hull.{IsHullOf}
use Rattle.area_run.proofs.Starting.{segment_is}
use Rattle.area_run.proofs.first.speeds_at.Goals as goal

pub returns : goal.returns
returns c =
    let fits_place_is : FitsSigned w64 c.args.place = c.ranges.place in
    let fits_lo : FitsSigned w64 c.args.lo = c.ranges.lo in
    let fits_hi : FitsSigned w64 c.args.hi = c.ranges.hi in
    let hull : IsHullOf (at c.args.place c.args.lo ∷ at c.args.place c.args.hi ∷ []) c.segment.result = simp to_z-of_z at c.segment.ensures in
    segment_is c.args.place c.args.lo c.args.hi c.segment.result c.requires.ordered hull
