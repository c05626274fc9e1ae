use Rattle.std.proofs.Common.{◌≤◌, ℕ}
use Rattle.spot_terms.specs.Motions.{IsStartSpeed}
use Rattle.lane_occupancy.proofs.ReachedCells.{Counted, IsPast}
use Rattle.lane_occupancy.proofs.polygons.reached_cells.Given as goal

abbrev pub invariant-loop-x : goal.invariant-loop-x
invariant-loop-x l = (c : ℕ) × IsPast l.reached l.x-index c × (l.count ≤ c) × ((speed : ℕ) → IsStartSpeed l.s.b speed → Counted l.net l.s speed l.k l.steps c l.count)
