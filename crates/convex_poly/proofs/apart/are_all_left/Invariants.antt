use Rattle.std.proofs.Common.{ℕ, ◌<◌, get_or}
use Rattle.spot_terms.specs.declared.plain.Pt.{Pt}
use Rattle.convex_poly.specs.Pivots.{AreLeftwards}
use Rattle.convex_poly.proofs.apart.are_all_left.Given as goal

abbrev pub invariant-loop-p : goal.invariant-loop-p
invariant-loop-p l = (k : ℕ) (d : Pt) → k < l.p-index → AreLeftwards l.vector (get_or l.a k d) l.b
