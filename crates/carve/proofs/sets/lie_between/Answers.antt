use Rattle.std.proofs.Common.{refl, subst, to_z, of_z, w64}
use Rattle.std.specs.List.{AllByRecursion}
use Rattle.spot_terms.specs.Whole.{Within}
use Rattle.spot_terms.specs.declared.plain.Pt.{Pt}
use Rattle.spot_terms.proofs.ListLemmas.{all_of}
use Rattle.spot_terms.proofs.Places.{all_places}
use Rattle.convex_poly.proofs.Wide.{back}
use Rattle.carve.proofs.sets.lie_between.Goals as goal

pub returns : goal.returns
returns c = (
  λ yes.
      subst (λ z. AllByRecursion (λ (v : Pt). Within z c.args.hi v.x) c.args.corners.now) (back c.args.lo c.ranges.lo.sfits)
      (subst (λ z. AllByRecursion (λ (v : Pt). Within (to_z w64 (of_z w64 c.args.lo)) z v.x) c.args.corners.now) (back c.args.hi c.ranges.hi.sfits)
      (all_of (λ v. Within (to_z w64 (of_z w64 c.args.lo)) (to_z w64 (of_z w64 c.args.hi)) v.x) c.args.corners.now (all_places (λ v. Within (to_z w64 (of_z w64 c.args.lo)) (to_z w64 (of_z w64 c.args.hi)) v.x) c.args.corners.now c.loop-corner.corner-index c.loop-corner-test.false c.loop-corner.invariant))),
  λ all. refl,
)
