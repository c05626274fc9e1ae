use Rattle.std.proofs.Common.{◌≡◌, take}
use Rattle.convex_poly.specs.Pivots.{differences}
use Rattle.lane_paths.proofs.gaps.clearance_of_at_most.Given as goal

abbrev pub invariant-loop-p : goal.invariant-loop-p
invariant-loop-p g l = l.vectors.items ≡ differences (take l.p-index l.a) l.b
