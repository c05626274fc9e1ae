use Rattle.std.proofs.Common.{◌≡◌, ◌≤◌, ◌*◌, ◌^◌, ◌+◌, ℤ, pos, ◌+ℤ◌, ◌*ℤ◌, ◌≤ℤ◌, ℕ, arith, to_z-of_z, FitsSigned, nat_abs, mul-le-mul}
use Rattle.std.proofs.lemmas.Int.{ints, unsigned_abs-mul}
use Rattle.std.specs.Int.{w128, w64}
use Rattle.spot_terms.proofs.Products.{products}
use Rattle.spot_terms.specs.Whole.{quotient_floor, quotient_ceiling}
use Rattle.spot_terms.proofs.Quotients.{IsQuotientFloor, quotient_floor-is, IsQuotientCeiling, quotient_ceiling-is}
use Rattle.heading.proofs.series.side.Goals as goal
use Rattle.heading.proofs.series.side.Goals.{After-div_floor, After-div_ceil}

product_small : (s p : ℤ) → nat_abs s ≤ 200_000 → nat_abs p ≤ 2 * 10 ^ 18 + 231 → nat_abs (s *ℤ p) ≤ 400_001 * 10 ^ 18
product_small s p h g = rw (unsigned_abs-mul s p) (le _ _ h g)
  where
    le : (x y : ℕ) → x ≤ 200_000 → y ≤ 2 * 10 ^ 18 + 231 → x * y ≤ 400_001 * 10 ^ 18
    le x y h g = let product : x * y ≤ 200_000 * (2 * 10 ^ 18 + 231) = mul-le-mul h g in omega arith

floor_small : (b q : ℤ) → nat_abs b ≤ 400_001 * 10 ^ 18 → IsQuotientFloor b (pos (10 ^ 18)) q → nat_abs q ≤ 400_001
floor_small b q h e = omega (arith, ints, products, e.product_le, e.next_product_gt)

ceil_small : (b q : ℤ) → nat_abs b ≤ 400_001 * 10 ^ 18 → IsQuotientCeiling b (pos (10 ^ 18)) q → nat_abs q ≤ 400_001
ceil_small b q h e = omega (arith, ints, products, e.product_ge, e.previous_product_lt)

both_near : (b q r : ℤ) → IsQuotientFloor b (pos (10 ^ 18)) q → IsQuotientCeiling b (pos (10 ^ 18)) r → (q ≤ℤ r) × (r ≤ℤ (q +ℤ pos 1))
both_near b q r e f = omega (arith, ints, products, e.product_le, e.next_product_gt, f.product_ge, f.previous_product_lt)

floor_is : (c : After-div_floor) → c.div_floor.result ≡ quotient_floor (c.args.speed *ℤ c.args.part) (pos (10 ^ 18))
floor_is c =
    let small = product_small c.args.speed c.args.part c.requires.speed c.requires.part in
    let speed_fits : FitsSigned w64 c.args.speed = c.ranges.speed in
    let wide_fits : FitsSigned w128 c.args.speed = omega (arith, ints) in
    let part_fits : FitsSigned w128 c.args.part = c.ranges.part in
    let product_fits : FitsSigned w128 (c.args.speed *ℤ c.args.part) = omega (arith, ints) in
    let scale_fits : FitsSigned w128 (pos (10 ^ 18)) = omega (arith, ints) in
    simp to_z-of_z at c.div_floor.ensures.value

floor_is_then : (c : After-div_ceil) → c.div_floor.result ≡ quotient_floor (c.args.speed *ℤ c.args.part) (pos (10 ^ 18))
floor_is_then c =
    let small = product_small c.args.speed c.args.part c.requires.speed c.requires.part in
    let speed_fits : FitsSigned w64 c.args.speed = c.ranges.speed in
    let wide_fits : FitsSigned w128 c.args.speed = omega (arith, ints) in
    let part_fits : FitsSigned w128 c.args.part = c.ranges.part in
    let product_fits : FitsSigned w128 (c.args.speed *ℤ c.args.part) = omega (arith, ints) in
    let scale_fits : FitsSigned w128 (pos (10 ^ 18)) = omega (arith, ints) in
    simp to_z-of_z at c.div_floor.ensures.value

ceil_is : (c : After-div_ceil) → c.div_ceil.result ≡ quotient_ceiling (c.args.speed *ℤ c.args.part) (pos (10 ^ 18))
ceil_is c =
    let small = product_small c.args.speed c.args.part c.requires.speed c.requires.part in
    let speed_fits : FitsSigned w64 c.args.speed = c.ranges.speed in
    let wide_fits : FitsSigned w128 c.args.speed = omega (arith, ints) in
    let part_fits : FitsSigned w128 c.args.part = c.ranges.part in
    let product_fits : FitsSigned w128 (c.args.speed *ℤ c.args.part) = omega (arith, ints) in
    let scale_fits : FitsSigned w128 (pos (10 ^ 18)) = omega (arith, ints) in
    simp to_z-of_z at c.div_ceil.ensures.value

floor_bounds : (s p : ℤ) → IsQuotientFloor (s *ℤ p) (pos (10 ^ 18)) (quotient_floor (s *ℤ p) (pos (10 ^ 18)))
floor_bounds s p = quotient_floor-is (s *ℤ p) (pos (10 ^ 18)) (omega (arith, ints))

ceil_bounds : (s p : ℤ) → IsQuotientCeiling (s *ℤ p) (pos (10 ^ 18)) (quotient_ceiling (s *ℤ p) (pos (10 ^ 18)))
ceil_bounds s p = quotient_ceiling-is (s *ℤ p) (pos (10 ^ 18)) (omega (arith, ints))

floor_within : (c : After-div_floor) → nat_abs c.div_floor.result ≤ 400_001
floor_within c = rw (floor_is c) (floor_small _ _ (product_small c.args.speed c.args.part c.requires.speed c.requires.part) (floor_bounds c.args.speed c.args.part))

ceil_within : (c : After-div_ceil) → nat_abs c.div_ceil.result ≤ 400_001
ceil_within c = rw (ceil_is c) (ceil_small _ _ (product_small c.args.speed c.args.part c.requires.speed c.requires.part) (ceil_bounds c.args.speed c.args.part))

floor_within_then : (c : After-div_ceil) → nat_abs c.div_floor.result ≤ 400_001
floor_within_then c = rw (floor_is_then c) (floor_small _ _ (product_small c.args.speed c.args.part c.requires.speed c.requires.part) (floor_bounds c.args.speed c.args.part))

near : (c : After-div_ceil) → (c.div_floor.result ≤ℤ c.div_ceil.result) × (c.div_ceil.result ≤ℤ (c.div_floor.result +ℤ pos 1))
near c = rw (floor_is_then c, ceil_is c) (both_near (c.args.speed *ℤ c.args.part) _ _ (floor_bounds c.args.speed c.args.part) (ceil_bounds c.args.speed c.args.part))

pub overflow_cast-result : goal.overflow_cast-result
overflow_cast-result c = let small = floor_within c in omega (arith, ints)

pub overflow_cast-result-2 : goal.overflow_cast-result-2
overflow_cast-result-2 c = let small = ceil_within c in omega (arith, ints)

pub returns-clause-least : goal.returns-clause-least
returns-clause-least c =
    let small = floor_within_then c in
    let is = floor_is_then c in
    omega (arith, ints)

pub returns-clause-greatest : goal.returns-clause-greatest
returns-clause-greatest c =
    let small = ceil_within c in
    let is = ceil_is c in
    omega (arith, ints)

pub returns-clause-ordered : goal.returns-clause-ordered
returns-clause-ordered c =
    let low = floor_within_then c in
    let high = ceil_within c in
    let order = near c in
    omega (arith, ints)

pub returns-clause-narrow : goal.returns-clause-narrow
returns-clause-narrow c =
    let low = floor_within_then c in
    let high = ceil_within c in
    let order = near c in
    omega (arith, ints)

pub returns-clause-lo_small : goal.returns-clause-lo_small
returns-clause-lo_small c =
    let low = floor_within_then c in
    omega (arith, ints)

pub returns-clause-hi_small : goal.returns-clause-hi_small
returns-clause-hi_small c =
    let high = ceil_within c in
    omega (arith, ints)
