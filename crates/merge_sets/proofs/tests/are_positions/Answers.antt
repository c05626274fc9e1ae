use Rattle.std.proofs.Common.{refl}
use Rattle.spot_terms.proofs.ListLemmas.{all_of}
use Rattle.spot_terms.proofs.Places.{all_places, below_and_here}
use Rattle.convex_poly.specs.Polygons.{IsPosition}
use Rattle.merge_sets.proofs.tests.are_positions.Goals as goal

pub loop-corner-preserved : goal.loop-corner-preserved
loop-corner-preserved c = below_and_here IsPosition c.args.corners.now c.loop-corner.corner-index _ c.loop-corner-test.true c.loop-corner.invariant (c.is_position.ensures.0 c.if-not-is_position.false)

pub returns : goal.returns
returns c = (λ yes. all_of IsPosition c.args.corners.now (all_places IsPosition c.args.corners.now c.loop-corner.corner-index c.loop-corner-test.false c.loop-corner.invariant), λ all. refl)
