use Rattle.std.proofs.Common.{refl}
use Rattle.spot_terms.specs.declared.plain.Pt.{Pt}
use Rattle.spot_terms.proofs.ListLemmas.{all_of}
use Rattle.spot_terms.proofs.Places.{all_places}
use Rattle.spot_terms.specs.Whole.{Within}
use Rattle.merge_sets.proofs.tests.are_in_rows.Goals as goal

pub returns : goal.returns
returns c = (λ yes. all_of (λ (v : Pt). Within c.args.o.now.ylo c.args.o.now.yhi v.x) c.args.corners.now (all_places (λ (v : Pt). Within c.args.o.now.ylo c.args.o.now.yhi v.x) c.args.corners.now c.loop-corner.corner-index c.loop-corner-test.false c.loop-corner.invariant), λ all. refl)
