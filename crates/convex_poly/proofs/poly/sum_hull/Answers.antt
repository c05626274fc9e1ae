use Rattle.std.proofs.Common.{List, subst}
use Rattle.spot_terms.specs.Hull.{IsHullOf}
use Rattle.spot_terms.specs.LanePolygons.{sums}
use Rattle.spot_terms.specs.declared.plain.Pt.{Pt}
use Rattle.convex_poly.proofs.SumSides.{polygon_of_sums}
use Rattle.convex_poly.proofs.poly.sum_hull.Goals as goal
use Rattle.convex_poly.proofs.poly.sum_hull.Goals.{After-put_sum_corners}

hull_is : (c : After-put_sum_corners) → IsHullOf (sums c.args.a.now c.args.b.now) c.put_sum_corners.new.corners.items
hull_is c =
    subst (λ (z : List Pt). IsHullOf (sums z c.args.b.now) c.put_sum_corners.new.corners.items) c.corners.ensures.items
    (subst (λ (z : List Pt). IsHullOf (sums c.corners.result.now z) c.put_sum_corners.new.corners.items) c.corners-2.ensures.items c.put_sum_corners.ensures.hull)

pub invariant_of-result : goal.invariant_of-result
invariant_of-result c = polygon_of_sums c.args.a.now c.args.b.now c.put_sum_corners.new.corners.items c.requires.a_near c.requires.b_near (hull_is c) c.put_sum_corners.ensures.few

pub returns : goal.returns
returns c = hull_is (goal.at.returns c).After-put_sum_corners
