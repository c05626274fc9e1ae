use Rattle.std.proofs.Common.{ℕ, ◌<◌, ◌≤◌, ◌-◌, length, get_or}
use Rattle.spot_terms.specs.declared.plain.Pt.{Pt}
use Rattle.spot_terms.specs.Hull.{Before}
use Rattle.convex_poly.proofs.sums.top_of.Given as goal

abbrev pub invariant-loop-top : goal.invariant-loop-top
invariant-loop-top l = record {
  within : l.top < length l.corners;
  up : (i j : ℕ) (d : Pt) → i < j → j ≤ l.top → Before (get_or l.corners i d) (get_or l.corners j d);
}

abbrev pub decreases-loop-top : goal.decreases-loop-top
decreases-loop-top l = length l.corners - l.top
