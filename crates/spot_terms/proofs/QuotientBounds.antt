-- A quotient rounded down or up is between whole numbers that the exact one is between.
use Rattle.std.proofs.Common.{◌≡◌, arith, ℤ, pos, ◌+ℤ◌, ◌-ℤ◌, ◌*ℤ◌, ◌<ℤ◌, ◌≤ℤ◌}
use Rattle.std.proofs.lemmas.Int.{ints}
use Rattle.spot_terms.specs.Whole.{Within, quotient_floor, quotient_ceiling}
use Rattle.spot_terms.proofs.Products.{products}
use Rattle.spot_terms.proofs.Quotients.{below_factor, quotient_floor-is, quotient_ceiling-is}

pub next_product : (b z : ℤ) → (z +ℤ pos 1) *ℤ b ≡ z *ℤ b +ℤ b
next_product b z = omega (arith, ints, products)

pub previous_product : (b z : ℤ) → (z -ℤ pos 1) *ℤ b ≡ z *ℤ b -ℤ b
previous_product b z = omega (arith, ints, products)

pub floor_between : (a b low high : ℤ) → pos 0 <ℤ b → (low *ℤ b) ≤ℤ a → a ≤ℤ (high *ℤ b) → Within low high (quotient_floor a b)
floor_between a b low high some l h =
    let is = quotient_floor-is a b some in
    let from_low = below_factor low (quotient_floor a b +ℤ pos 1) b some (omega (arith, ints, is.next_product_gt, l)) in
    let to_high = below_factor (quotient_floor a b) (high +ℤ pos 1) b some (omega (arith, ints, is.product_le, h, next_product b high, some)) in
    record { low = omega (arith, ints, from_low); high = omega (arith, ints, to_high) }

pub ceiling_between : (a b low high : ℤ) → pos 0 <ℤ b → (low *ℤ b) ≤ℤ a → a ≤ℤ (high *ℤ b) → Within low high (quotient_ceiling a b)
ceiling_between a b low high some l h =
    let is = quotient_ceiling-is a b some in
    let from_low = below_factor (low -ℤ pos 1) (quotient_ceiling a b) b some (omega (arith, ints, is.product_ge, l, previous_product b low, some)) in
    let to_high = below_factor (quotient_ceiling a b -ℤ pos 1) high b some (omega (arith, ints, is.previous_product_lt, h)) in
    record { low = omega (arith, ints, from_low); high = omega (arith, ints, to_high) }
