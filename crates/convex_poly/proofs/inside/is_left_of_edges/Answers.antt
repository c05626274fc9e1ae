use Rattle.std.proofs.Common.{pos, ◌≤ℤ◌, arith}
use Rattle.std.proofs.lemmas.Int.{ints}
use Rattle.convex_poly.proofs.Wide.{test_not_below}
use Rattle.convex_poly.proofs.Corners.{edge_step, closing_step, closing_back, origin}
use Rattle.convex_poly.proofs.inside.is_left_of_edges.Goals as goal

pub loop-i-preserved : goal.loop-i-preserved
loop-i-preserved c =
    let sign : pos 0 ≤ℤ c.cross.result = omega (arith, ints) in
    edge_step c.args.corners.now c.args.p.now origin c.loop-i.i c.cross.result c.loop-i.invariant c.loop-i.auto.i c.loop-i-test.true c.cross.ensures sign

pub returns : goal.returns
returns c = (
  λ yes.
      let sign : pos 0 ≤ℤ c.cross-2.result = omega (arith, ints) in (
        (λ m n d next h. c.loop-i.invariant m n d next (omega (arith, c.loop-i-test.false))),
        closing_step c.args.corners.now c.args.p.now origin c.cross-2.result c.requires.some c.cross-2.ensures sign,
      ),
  λ all.
      let sign : pos 0 ≤ℤ c.cross-2.result = closing_back c.args.corners.now c.args.p.now origin c.cross-2.result c.requires.some c.cross-2.ensures all.1 in
      test_not_below c.cross-2.result c.cross-2.type_inv sign,
)
