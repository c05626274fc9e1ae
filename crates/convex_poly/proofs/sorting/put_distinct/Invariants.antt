use Rattle.convex_poly.proofs.Repeats.{IsKept}
use Rattle.convex_poly.proofs.sorting.put_distinct.Given as goal

abbrev pub invariant-loop-i : goal.invariant-loop-i
invariant-loop-i l = IsKept l.points l.kept.items l.i
