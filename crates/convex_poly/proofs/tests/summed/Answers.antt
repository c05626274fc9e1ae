use Rattle.std.proofs.Common.{arith}
use Rattle.convex_poly.proofs.CornerCounts.{few_corners, few_points}
use Rattle.convex_poly.proofs.SumSides.{hull_summands}
use Rattle.convex_poly.proofs.Tops.{summand_positions}
use Rattle.convex_poly.proofs.tests.summed.Goals as goal

pub hull-requires-clause-positions : goal.hull-requires-clause-positions
hull-requires-clause-positions c = summand_positions c.args.a.now c.requires.a_in

pub hull-requires-clause-few_corners : goal.hull-requires-clause-few_corners
hull-requires-clause-few_corners c = few_corners c.args.a.now (summand_positions c.args.a.now c.requires.a_in) (omega arith)

pub hull-requires-2-clause-positions : goal.hull-requires-2-clause-positions
hull-requires-2-clause-positions c = summand_positions c.args.b.now c.requires.b_in

pub hull-requires-2-clause-few_corners : goal.hull-requires-2-clause-few_corners
hull-requires-2-clause-few_corners c = few_corners c.args.b.now (summand_positions c.args.b.now c.requires.b_in) (omega arith)

pub sum_hull-requires-clause-few : goal.sum_hull-requires-clause-few
sum_hull-requires-clause-few c =
    let m = few_points c.args.a.now c.hull.result (summand_positions c.args.a.now c.requires.a_in) c.hull.ensures in
    let n = few_points c.args.b.now c.hull-2.result (summand_positions c.args.b.now c.requires.b_in) c.hull-2.ensures in
    omega (arith, m, n)

pub sum_hull-requires-clause-a_near : goal.sum_hull-requires-clause-a_near
sum_hull-requires-clause-a_near c = hull_summands c.args.a.now c.hull.result c.requires.a_in c.hull.ensures

pub sum_hull-requires-clause-b_near : goal.sum_hull-requires-clause-b_near
sum_hull-requires-clause-b_near c = hull_summands c.args.b.now c.hull-2.result c.requires.b_in c.hull-2.ensures
