use Rattle.std.proofs.Common.{◌≤◌, [], ◌∷◌, length, arith}
use Rattle.std.specs.List.{AllByRecursion}
use Rattle.convex_poly.specs.Polygons.{IsPosition}
use Rattle.convex_poly.proofs.CornerCounts.{few_corners}
use Rattle.convex_poly.proofs.HullCorners.{polygon_of}
use Rattle.convex_poly.proofs.poly.segment.Goals as goal

pub invariant_of-result : goal.invariant_of-result
invariant_of-result c =
    let positions : AllByRecursion IsPosition (c.args.p ∷ c.args.q ∷ []) = (c.requires.p_in, (c.requires.q_in, tt)) in
    let two : length (c.args.p ∷ c.args.q ∷ []) ≤ 20 = omega arith in
    polygon_of (c.args.p ∷ c.args.q ∷ []) c.put_ends.new.corners.items positions (few_corners (c.args.p ∷ c.args.q ∷ []) positions two) c.put_ends.ensures
