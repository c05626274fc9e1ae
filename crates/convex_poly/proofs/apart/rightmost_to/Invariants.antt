use Rattle.spot_terms.specs.declared.plain.Pt.{Pt}
use Rattle.convex_poly.specs.Pivots.{AreLeftwards, IsLeftwards, LeansTo}
use Rattle.convex_poly.specs.Vectors.{IsVector}
use Rattle.convex_poly.proofs.Leans.{FirstWays}
use Rattle.convex_poly.proofs.apart.rightmost_to.Given as goal

abbrev pub invariant-loop-q : goal.invariant-loop-q
invariant-loop-q l = record {
  size : IsVector l.vector;
  leans : (v : Pt) → IsLeftwards v l.fn.from → AreLeftwards v l.p l.b → LeansTo v l.fn.from l.vector (FirstWays l.p l.b l.q-index);
}
