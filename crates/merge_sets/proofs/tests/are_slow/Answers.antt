use Rattle.std.proofs.Common.{refl}
use Rattle.spot_terms.specs.declared.plain.Pt.{Pt}
use Rattle.spot_terms.proofs.ListLemmas.{all_of}
use Rattle.spot_terms.proofs.Places.{all_places, below_and_here}
use Rattle.spot_terms.specs.Whole.{SizeAtMost}
use Rattle.merge_sets.proofs.tests.are_slow.Goals as goal

pub loop-corner-preserved : goal.loop-corner-preserved
loop-corner-preserved c = below_and_here (λ (v : Pt). SizeAtMost 1_000_000 v.y) c.args.corners.now c.loop-corner.corner-index _ c.loop-corner-test.true c.loop-corner.invariant (c.is_slow.ensures.0 c.if-not-is_slow.false)

pub returns : goal.returns
returns c = (λ yes. all_of (λ (v : Pt). SizeAtMost 1_000_000 v.y) c.args.corners.now (all_places (λ (v : Pt). SizeAtMost 1_000_000 v.y) c.args.corners.now c.loop-corner.corner-index c.loop-corner-test.false c.loop-corner.invariant), λ all. refl)
