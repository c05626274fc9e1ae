use Rattle.convex_poly.proofs.BoxLaws.{IsBoxSoFar}
use Rattle.convex_poly.proofs.boxes.BoundingBox.of.Given as goal

abbrev pub invariant-loop-p : goal.invariant-loop-p
invariant-loop-p l = IsBoxSoFar l.points l.p-index l.least
