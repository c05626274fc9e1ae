use Rattle.std.proofs.Common.{sym, subst, IfOk}
use Rattle.scenario.specs.Radii.{PartIs}
use Rattle.scenario.specs.declared.shapes.Part.{Part}
use Rattle.scenario.proofs.shapes.part_at.Goals as goal

pub returns-in-Circle-clause-is : goal.returns-in-Circle-clause-is
returns-in-Circle-clause-is c =
    let P : Part → Type 0 = λ p. PartIs p c.args.tree.now c.args.e c.circle_at.result.enclosing c.circle_at.result.inscribed in
    subst P (sym c.in-Circle.is) c.circle_at.ensures.is

pub returns-in-Rectangle-clause-is : goal.returns-in-Rectangle-clause-is
returns-in-Rectangle-clause-is c =
    let P : Part → Type 0 = λ p. PartIs p c.args.tree.now c.args.e c.rectangle_at.result.enclosing c.rectangle_at.result.inscribed in
    subst P (sym c.in-Rectangle.is) c.rectangle_at.ensures.is

pub returns-in-Polygon-clause-is : goal.returns-in-Polygon-clause-is
returns-in-Polygon-clause-is c =
    let P : Part → Type 0 = λ p. IfOk c.polygon_at.result (λ r. PartIs p c.args.tree.now c.args.e r.enclosing r.inscribed) in
    subst P (sym c.in-Polygon.is) c.polygon_at.ensures.is
