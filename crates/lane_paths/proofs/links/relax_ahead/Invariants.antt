use Rattle.std.proofs.Common.{ℕ, take}
use Rattle.std.specs.List.{AllByRecursion}
use Rattle.spot_terms.specs.Cells.{cells}
use Rattle.spot_terms.specs.Network.{IsAhead}
use Rattle.spot_terms.specs.declared.plain.Pt.{Pt}
use Rattle.lane_paths.specs.Relaxations.{HasPlaces, Relaxes}
use Rattle.lane_paths.specs.Waypoints.{IsWaypoint, LinksToEntries}
use Rattle.lane_paths.proofs.links.relax_ahead.Given as goal

abbrev pub invariant-loop-d : goal.invariant-loop-d
invariant-loop-d l = HasPlaces l.net l.search × ((p : Pt) (i c : ℕ) → IsWaypoint l.net p i c l.from → AllByRecursion (IsAhead l.net (cells l.net) c) l.ahead → Relaxes (LinksToEntries l.net p i c (take l.d-index l.ahead)) l.from.length l.fn.search l.search)
