use Rattle.std.proofs.Common.{◌≡◌, take}
use Rattle.convex_poly.proofs.poly.Poly.copy.Given as goal

abbrev pub invariant-loop-corner : goal.invariant-loop-corner
invariant-loop-corner l = l.corners.items ≡ take l.corner-index l.corner-items
