use Rattle.std.proofs.Common.{◌≡◌, ◌++◌, take}
use Rattle.convex_poly.specs.Pivots.{each_minus}
use Rattle.lane_paths.proofs.gaps.push_differences.Given as goal

abbrev pub invariant-loop-q : goal.invariant-loop-q
invariant-loop-q g l = l.vectors.items ≡ l.initial.vectors.items ++ each_minus l.p (take l.q-index l.b)
