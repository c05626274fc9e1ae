use Rattle.convex_poly.proofs.Supports.{IsGreatestUpTo}
use Rattle.convex_poly.proofs.support.greatest_along.Given as goal

abbrev pub invariant-loop-corner : goal.invariant-loop-corner
invariant-loop-corner l = IsGreatestUpTo l.corners l.nx l.ny l.corner-index l.greatest
