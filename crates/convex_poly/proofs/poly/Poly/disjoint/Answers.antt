use Rattle.std.proofs.Common.{List, subst, IsTrue}
use Rattle.spot_terms.specs.declared.plain.Pt.{Pt}
use Rattle.convex_poly.specs.Pivots.{AreDisjoint}
use Rattle.convex_poly.proofs.poly.Poly.disjoint.Goals as goal

pub returns : goal.returns
returns c =
    subst (λ (a : List Pt). (IsTrue c.are_disjoint.result → AreDisjoint a c.args.other.now) × (AreDisjoint a c.args.other.now → IsTrue c.are_disjoint.result)) c.corners.ensures.items
    (subst (λ (b : List Pt). (IsTrue c.are_disjoint.result → AreDisjoint c.corners.result.now b) × (AreDisjoint c.corners.result.now b → IsTrue c.are_disjoint.result)) c.corners-2.ensures.items c.are_disjoint.ensures)
