use Rattle.std.proofs.Common.{take}
use Rattle.lane_paths.specs.Closed.{AreAllClosed}
use Rattle.lane_paths.specs.Relaxations.{HasPlaces, Relaxes}
use Rattle.lane_paths.specs.Waypoints.{LinksFromStart}
use Rattle.lane_paths.proofs.links.relax_start.Given as goal

abbrev pub invariant-loop-s : goal.invariant-loop-s
invariant-loop-s l = HasPlaces l.net l.search × AreAllClosed l.net l.search.lengths l.closed × Relaxes (LinksFromStart l.net l.start (take l.s-index l.starts)) 0 l.fn.search l.search
