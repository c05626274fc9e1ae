use Rattle.convex_poly.specs.Runs.{IsSpanOf}
use Rattle.convex_poly.proofs.RunRows.{IsSoFar}
use Rattle.convex_poly.proofs.runs.run_of.Given as goal

abbrev pub invariant-loop-i : goal.invariant-loop-i
invariant-loop-i l = IsSpanOf (IsSoFar l.corners l.y0 l.y1 l.i) l.span
