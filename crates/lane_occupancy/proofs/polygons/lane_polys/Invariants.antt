use Rattle.std.proofs.Common.{ℕ}
use Rattle.spot_terms.specs.Motions.{IsStartSpeed}
use Rattle.lane_occupancy.proofs.LanePolyLists.{ArePolygonsBelow}
use Rattle.lane_occupancy.proofs.ReachedCells.{IsPast}
use Rattle.lane_occupancy.proofs.polygons.lane_polys.Given as goal

abbrev pub invariant-loop-x : goal.invariant-loop-x
invariant-loop-x l = (c : ℕ) × IsPast l.reached l.x-index c × ((speed : ℕ) → IsStartSpeed l.s.b speed → ArePolygonsBelow l.net l.s speed l.k l.steps c l.polys.items)
