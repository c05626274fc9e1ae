use Rattle.std.proofs.Common.{◌≡◌, length}
use Rattle.std.specs.List.{AllByRecursion}
use Rattle.spot_terms.specs.Ranges.{IsPairInRange}
use Rattle.lanelets.proofs.tests.bound_of.Given as goal

-- so many points, each in range
abbrev pub invariant-loop-point : goal.invariant-loop-point
invariant-loop-point g l = record { count : length l.points.items ≡ l.point-index; near : AllByRecursion IsPairInRange l.points.items }
