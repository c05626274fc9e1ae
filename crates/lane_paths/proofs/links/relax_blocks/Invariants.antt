use Rattle.std.proofs.Common.{◌≤◌, ◌-◌, ℕ, length, take}
use Rattle.spot_terms.specs.declared.plain.Pt.{Pt}
use Rattle.lane_paths.specs.Closed.{AreClosed}
use Rattle.lane_paths.specs.Relaxations.{HasPlaces, Relaxes}
use Rattle.lane_paths.specs.Waypoints.{IsWaypoint, LinksInCells}
use Rattle.lane_paths.proofs.links.relax_blocks.Given as goal

abbrev pub invariant-loop-first : goal.invariant-loop-first
invariant-loop-first l = HasPlaces l.net l.search × AreClosed l.net l.search.lengths l.closed.greatest.items × (l.first ≤ length l.class)
    × ((p : Pt) (i : ℕ) → IsWaypoint l.net p i l.from.cell l.from → Relaxes (LinksInCells l.net p i (take l.first l.class)) l.from.length l.fn.search l.search)

abbrev pub decreases-loop-first : goal.decreases-loop-first
decreases-loop-first l = length l.class - l.first
