-- The computed number of parts of a piece is the least that will do.
use Rattle.std.proofs.Common.{ℕ, ◌+◌, ◌*◌, ◌/◌, ◌≤◌, max, arith}
use Rattle.spot_terms.specs.Cells.{part_count, side_square}
use Rattle.spot_terms.specs.PartCounts.{PartCountsAre}
use Rattle.spot_terms.specs.Whole.{root_ceiling}
use Rattle.spot_terms.proofs.Roots.{root_ceiling-is}
use Rattle.spot_terms.proofs.Orders.{at_most_greater_square}

-- that many parts are at least as long as the root
long_enough : (root : ℕ) → root ≤ max 1 ((root + 1_999_999) / 2_000_000) * 2_000_000
long_enough root = omega arith

-- and no fewer are
few_enough : (root m : ℕ) → 1 ≤ m → root ≤ m * 2_000_000 → max 1 ((root + 1_999_999) / 2_000_000) ≤ m
few_enough root m h k = omega arith

pub part_counts_are : PartCountsAre
unfolding part_count
part_counts_are l l' r r' h k =
    let a = side_square l l' in
    let b = side_square r r' in
    let root = root_ceiling-is (max a b) (omega (arith, h, k)) in
    let enough = root.enough in
    let long = long_enough (root_ceiling (max a b)) in
    record {
      some = omega arith;
      left = at_most_greater_square a (root_ceiling (max a b)) _ (omega (arith, enough)) long;
      right = at_most_greater_square b (root_ceiling (max a b)) _ (omega (arith, enough)) long;
      least = λ m some left right. few_enough (root_ceiling (max a b)) m some (root.least (m * 2_000_000) (omega (arith, left, right)));
    }
