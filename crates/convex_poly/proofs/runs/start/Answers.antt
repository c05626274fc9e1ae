use Rattle.std.proofs.Common.{w64, to_z-of_z, FitsSigned, arith}
use Rattle.convex_poly.proofs.Corners.{origin}
use Rattle.spot_terms.proofs.Places.{all_at}
use Rattle.convex_poly.specs.Polygons.{IsPosition}
use Rattle.convex_poly.proofs.RunRows.{start_one, start_two, corner_order}
use Rattle.convex_poly.proofs.runs.start.Goals as goal

pub boxed-requires-clause-from_in : goal.boxed-requires-clause-from_in
boxed-requires-clause-from_in c = all_at IsPosition c.args.corners.now 0 origin c.requires.positions (omega (arith, c.in-len1.len_at_least))

pub boxed-requires-clause-to_in : goal.boxed-requires-clause-to_in
boxed-requires-clause-to_in c = all_at IsPosition c.args.corners.now 0 origin c.requires.positions (omega (arith, c.in-len1.len_at_least))

pub boxed-requires-in-len2-clause-ordered : goal.boxed-requires-in-len2-clause-ordered
boxed-requires-in-len2-clause-ordered c = corner_order c.args.corners.now origin c.requires c.in-len2.len_at_least

pub returns-in-len1 : goal.returns-in-len1
returns-in-len1 c =
    let y0 : FitsSigned w64 c.args.y0 = c.ranges.y0 in
    let y1 : FitsSigned w64 c.args.y1 = c.ranges.y1 in
    start_one c.args.corners.now c.args.y0 c.args.y1 origin c.boxed.result c.in-len1.len_at_least c.in-len1.len_below (simp to_z-of_z at c.boxed.ensures)

pub returns-in-len2 : goal.returns-in-len2
returns-in-len2 c =
    let y0 : FitsSigned w64 c.args.y0 = c.ranges.y0 in
    let y1 : FitsSigned w64 c.args.y1 = c.ranges.y1 in
    start_two c.args.corners.now c.args.y0 c.args.y1 origin c.boxed-in-len2.result c.in-len2.len_at_least c.in-len2.len_below (simp to_z-of_z at c.boxed-in-len2.ensures)
