use Rattle.std.proofs.Common.{◌≡◌, ◌++◌, take}
use Rattle.convex_poly.proofs.hulls.push_all.Given as goal

abbrev pub invariant-loop-p : goal.invariant-loop-p
invariant-loop-p l = l.corners.items ≡ l.initial.corners.items ++ take l.p-index l.points
