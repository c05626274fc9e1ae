use Rattle.std.proofs.Common.{◌≡◌, ℕ, List}
use Rattle.std.specs.Prelude.{Option}
use Rattle.spot_terms.specs.declared.plain.Pt.{Pt}
use Rattle.lane_paths.specs.Closed.{AreAllClosed}
use Rattle.lane_paths.specs.Relaxations.{HasPlaces, IsUnderWay, size_of}
use Rattle.lane_paths.proofs.links.relax_all.Given as goal

abbrev pub invariant-loop : goal.invariant-loop
invariant-loop l = HasPlaces l.net l.search × AreAllClosed l.net l.search.lengths l.closed × (l.search.limit ≡ l.fn.search.limit) × ((p : Pt) (first : List (Option ℕ)) → IsUnderWay l.net p first l.fn.search → IsUnderWay l.net p first l.search)

abbrev pub decreases-loop : goal.decreases-loop
decreases-loop l = size_of l.search
