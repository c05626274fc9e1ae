use Rattle.std.proofs.Common.{◌≡◌, length}
use Rattle.std.specs.List.{AllByRecursion}
use Rattle.spot_terms.specs.Ranges.{IsPairInRange}
use Rattle.lane_occupancy.proofs.tests.lane.Given as goal

abbrev pub invariant-loop-pair : goal.invariant-loop-pair
invariant-loop-pair l = record {
  left_count : length l.left.items ≡ l.pair-index;
  right_count : length l.right.items ≡ l.pair-index;
  left : AllByRecursion IsPairInRange l.left.items;
  right : AllByRecursion IsPairInRange l.right.items;
}
