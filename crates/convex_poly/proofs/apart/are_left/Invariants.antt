use Rattle.std.proofs.Common.{ℕ, ◌<◌, get_or}
use Rattle.spot_terms.specs.declared.plain.Pt.{Pt}
use Rattle.convex_poly.specs.Pivots.{IsLeftwards}
use Rattle.convex_poly.specs.Vectors.{minus}
use Rattle.convex_poly.proofs.apart.are_left.Given as goal

abbrev pub invariant-loop-q : goal.invariant-loop-q
invariant-loop-q l = (k : ℕ) (d : Pt) → k < l.q-index → IsLeftwards l.vector (minus l.p (get_or l.b k d))
