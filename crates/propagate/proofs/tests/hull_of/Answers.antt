use Rattle.std.proofs.Common.{arith, List}
use Rattle.std.specs.List.{AllByRecursion}
use Rattle.spot_terms.specs.declared.plain.Pt.{Pt}
use Rattle.spot_terms.specs.Lists.{Includes}
use Rattle.spot_terms.proofs.ListLemmas.{all_included, all_of}
use Rattle.convex_poly.specs.Polygons.{IsPosition}
use Rattle.convex_poly.proofs.CornerCounts.{few_corners}
use Rattle.propagate.specs.Children.{IsStepPoint}
use Rattle.propagate.proofs.tests.hull_of.Goals as goal

positions : (vs : List Pt) → AllByRecursion IsStepPoint vs → AllByRecursion IsPosition vs
positions vs h = all_of IsPosition vs (λ v i. let p = all_included IsStepPoint vs v h i in let x = p.x in let y = p.y in record { x = omega (arith, x); y = omega (arith, y) })

pub hull-requires-clause-positions : goal.hull-requires-clause-positions
hull-requires-clause-positions c = positions c.args.corners.now c.requires.near

pub hull-requires-clause-few_corners : goal.hull-requires-clause-few_corners
hull-requires-clause-few_corners c = few_corners c.args.corners.now (positions c.args.corners.now c.requires.near) c.requires.few

pub returns : goal.returns
returns c = all_of IsStepPoint c.hull.result (λ v i. all_included IsStepPoint c.args.corners.now v c.requires.near (all_included (Includes c.args.corners.now) c.hull.result v c.hull.ensures.among i))
