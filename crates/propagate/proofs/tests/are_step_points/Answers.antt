use Rattle.std.proofs.Common.{refl}
use Rattle.spot_terms.proofs.ListLemmas.{all_of}
use Rattle.spot_terms.proofs.Places.{all_places, below_and_here}
use Rattle.propagate.specs.Children.{IsStepPoint}
use Rattle.propagate.proofs.tests.are_step_points.Goals as goal

pub loop-corner-preserved : goal.loop-corner-preserved
loop-corner-preserved c = below_and_here IsStepPoint c.args.corners.now c.loop-corner.corner-index _ c.loop-corner-test.true c.loop-corner.invariant (c.is_step_point.ensures.0 c.if-not-is_step_point.false)

pub returns : goal.returns
returns c = (λ yes. all_of IsStepPoint c.args.corners.now (all_places IsStepPoint c.args.corners.now c.loop-corner.corner-index c.loop-corner-test.false c.loop-corner.invariant), λ all. refl)
