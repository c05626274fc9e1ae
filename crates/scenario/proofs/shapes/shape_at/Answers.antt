use Rattle.std.proofs.Common.{sym, subst, ap, ◌∙◌, Option}
use Rattle.spot_claims.specs.Radii.{PartRadii}
use Rattle.scenario.specs.Radii.{Greatest, greater_of}
use Rattle.scenario.specs.declared.shapes.Radii.{Radii}
use Rattle.scenario.proofs.Parts.{no_parts, all_parts, radii_are}
use Rattle.scenario.proofs.shapes.shape_at.Goals as goal

pub unreachable-requires : goal.unreachable-requires
unreachable-requires c =
    no_parts c.args.tree.now c.args.shape c.in_ok-circles.circles c.in_ok-rectangles.rectangles c.in_ok-polygons.polygons c.greater-2.result c.requires.has
    (c.greater-2.ensures ∙ ap (λ o. greater_of o c.in_ok-polygons.polygons) c.greater.ensures) c.in-None.is c.in_ok-circles.ensures.none c.in_ok-rectangles.ensures.none c.in_ok-polygons.ensures.none

pub returns-clause-is : goal.returns-clause-is
returns-clause-is c =
    let P : Option Radii → Type 0 = λ o. Greatest (PartRadii c.args.tree.now c.args.shape) o in
    radii_are c.args.tree.now c.args.shape c.greater-2.result c.in-Some.radii c.in-Some.is
    (subst P (sym (c.greater-2.ensures ∙ ap (λ o. greater_of o c.in_ok-polygons.polygons) c.greater.ensures))
    (all_parts c.args.tree.now c.args.shape c.in_ok-circles.circles c.in_ok-rectangles.rectangles c.in_ok-polygons.polygons c.in_ok-circles.ensures.is c.in_ok-rectangles.ensures.is c.in_ok-polygons.ensures.is))
