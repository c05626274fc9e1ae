use Rattle.convex_poly.proofs.HullCorners.{polygon_of}
use Rattle.convex_poly.proofs.poly.hull.Goals as goal

pub invariant_of-result : goal.invariant_of-result
invariant_of-result c = polygon_of c.args.points.now c.put_corners.new.corners.items c.requires.positions c.requires.few_corners c.put_corners.ensures
