use Rattle.std.proofs.Common.{ℕ, take}
use Rattle.spot_terms.specs.declared.plain.Pt.{Pt}
use Rattle.lane_paths.specs.Relaxations.{HasPlaces, Relaxes}
use Rattle.lane_paths.specs.Waypoints.{IsWaypoint, LinksInCells}
use Rattle.lane_paths.proofs.links.relax_cells.Given as goal

abbrev pub invariant-loop-c : goal.invariant-loop-c
invariant-loop-c l = HasPlaces l.net l.search × ((p : Pt) (i : ℕ) → IsWaypoint l.net p i l.from.cell l.from → Relaxes (LinksInCells l.net p i (take l.c-index l.some)) l.from.length l.fn.search l.search)
