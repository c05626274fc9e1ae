use Rattle.std.proofs.Common.{◌∙◌, subst, to_z, of_z, w64}
use lib.IntN.{ℤ, pos}
use Rattle.spot_terms.specs.Hull.{IsSupport}
use Rattle.spot_terms.specs.declared.plain.Pt.{Pt}
use Rattle.convex_poly.proofs.Wide.{back}
use Rattle.convex_poly.proofs.Supports.{first_reached, next_reached, whole_support}
use Rattle.convex_poly.proofs.support.greatest_along.Goals as goal

abbrev origin : Pt
origin = record { x = pos 0; y = pos 0 }

pub loop-corner-init : goal.loop-corner-init
loop-corner-init c =
    first_reached c.args.corners.now (to_z w64 (of_z w64 c.args.nx)) (to_z w64 (of_z w64 c.args.ny)) _ origin c.requires.some (back c.dot-greatest.result c.dot-greatest.type_inv ∙ c.dot-greatest.ensures)

pub loop-corner-preserved : goal.loop-corner-preserved
loop-corner-preserved c =
    next_reached c.args.corners.now (to_z w64 (of_z w64 c.args.nx)) (to_z w64 (of_z w64 c.args.ny)) c.loop-corner.corner-index origin _ (to_z w64 (of_z w64 c.dot.result)) _ c.loop-corner-test.true c.loop-corner.invariant
    (back c.dot.result c.dot.type_inv ∙ c.dot.ensures)
    (back c.max-greatest.result c.max-greatest.type_inv ∙ c.max-greatest.ensures.value)

pub returns : goal.returns
returns c =
    subst (λ (n : ℤ). IsSupport c.args.corners.now n c.args.ny (to_z w64 c.loop-corner.greatest-bits)) (back c.args.nx c.ranges.nx.sfits)
    (subst (λ (n : ℤ). IsSupport c.args.corners.now (to_z w64 (of_z w64 c.args.nx)) n (to_z w64 c.loop-corner.greatest-bits)) (back c.args.ny c.ranges.ny.sfits)
    (whole_support c.args.corners.now (to_z w64 (of_z w64 c.args.nx)) (to_z w64 (of_z w64 c.args.ny)) c.loop-corner.corner-index _ c.loop-corner-test.false c.loop-corner.invariant))
