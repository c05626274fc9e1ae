use Rattle.std.proofs.Common.{refl}
use Rattle.spot_terms.proofs.ListLemmas.{all_of}
use Rattle.convex_poly.specs.Polygons.{IsPosition}
use Rattle.spot_terms.proofs.Places.{all_places, below_and_here}
use Rattle.convex_poly.proofs.table_tests.are_positions.Goals as goal

pub loop-p-preserved : goal.loop-p-preserved
loop-p-preserved c = below_and_here IsPosition c.args.points.now c.loop-p.p-index _ c.loop-p-test.true c.loop-p.invariant (c.is_position.ensures.0 c.if-not-is_position.false)

pub returns : goal.returns
returns c = (
  λ yes. all_of IsPosition c.args.points.now (all_places IsPosition c.args.points.now c.loop-p.p-index c.loop-p-test.false c.loop-p.invariant),
  λ all. refl,
)
