use Rattle.spot_terms.specs.declared.plain.Pt.{Pt}
use Rattle.spot_terms.specs.Lists.{Includes}
use Rattle.convex_poly.specs.Pivots.{AreLeftwards}
use Rattle.convex_poly.specs.Vectors.{IsVector}
use Rattle.convex_poly.proofs.Leans.{IsRightmost}
use Rattle.convex_poly.proofs.apart.rightmost.Given as goal

abbrev pub invariant-loop-p : goal.invariant-loop-p
invariant-loop-p l = record {
  size : IsVector l.vector;
  right : (v : Pt) → ((p : Pt) → Includes l.a p → AreLeftwards v p l.b) → IsRightmost v l.vector l.a l.b l.p-index;
}
