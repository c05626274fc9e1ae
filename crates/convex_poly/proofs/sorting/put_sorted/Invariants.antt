use Rattle.std.proofs.Common.{◌≡◌, take}
use Rattle.convex_poly.proofs.sorting.put_sorted.Given as goal

abbrev pub invariant-loop-p : goal.invariant-loop-p
invariant-loop-p l = l.sorted.items ≡ take l.p-index l.points
