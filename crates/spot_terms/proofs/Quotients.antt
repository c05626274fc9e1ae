-- The quotients by their two bounds.
use Rattle.std.proofs.Common.{◌≡◌, ℕ, ◌+◌, ◌*◌, ◌/◌, ◌<◌, ◌≤◌, refl, arith, ℤ, pos, negsuc, ◌+ℤ◌, ◌-ℤ◌, ◌*ℤ◌, ◌<ℤ◌, ◌≤ℤ◌, neg_ℤ}
use Rattle.std.proofs.lemmas.Int.{ints}
use Rattle.spot_terms.proofs.Products.{products}
use Rattle.std.specs.Int.{int_div_euclid, int_rem_euclid}
use Rattle.spot_terms.specs.Whole.{quotient_floor, quotient_ceiling}
use borrow.Author.Differences.{up, down}

-- q is a / b rounded down
pub record IsQuotientFloor (a b q : ℤ) : Type 0 where
  pub product_le : (q *ℤ b) ≤ℤ a
  pub next_product_gt : a <ℤ ((q +ℤ pos 1) *ℤ b)

quotient_between : (a q : ℤ) (k : ℕ) → up q * k + down a ≤ down q * k + up a → down q * k + up a < up q * k + down a + k → IsQuotientFloor a (pos k) q
quotient_between a q k low high = record { product_le = omega (arith, ints, products); next_product_gt = omega (arith, ints, products) }

pub quotient_floor-is : (a b : ℤ) → pos 0 <ℤ b → IsQuotientFloor a b (quotient_floor a b)
quotient_floor-is (pos a) (pos b) h = quotient_between (pos a) (pos (a / b)) b (omega (arith, ints, products)) (omega (arith, ints))
quotient_floor-is (negsuc a) (pos b) h = quotient_between (negsuc a) (negsuc (a / b)) b (omega (arith, ints, products)) (omega (arith, ints))
quotient_floor-is (pos a) (negsuc b) h = absurd (omega (arith, ints, products))
quotient_floor-is (negsuc a) (negsuc b) h = absurd (omega (arith, ints, products))

-- q is a / b rounded up
pub record IsQuotientCeiling (a b q : ℤ) : Type 0 where
  pub product_ge : a ≤ℤ (q *ℤ b)
  pub previous_product_lt : ((q -ℤ pos 1) *ℤ b) <ℤ a

neg_quotient : (a b q : ℤ) → IsQuotientFloor (neg_ℤ a) b q → IsQuotientCeiling a b (neg_ℤ q)
neg_quotient a b q h = record { product_ge = omega (arith, ints, products, h.product_le); previous_product_lt = omega (arith, ints, products, h.next_product_gt) }

pub quotient_ceiling-is : (a b : ℤ) → pos 0 <ℤ b → IsQuotientCeiling a b (quotient_ceiling a b)
quotient_ceiling-is a b h = neg_quotient a b (quotient_floor (neg_ℤ a) b) (quotient_floor-is (neg_ℤ a) b h)

-- the same of any number that equals the definition's
pub product_le_at : (a b q : ℤ) → pos 0 <ℤ b → q ≡ quotient_floor a b → (q *ℤ b) ≤ℤ a
product_le_at a b q h e = rw e ((quotient_floor-is a b h).product_le)

pub next_product_gt_at : (a b q : ℤ) → pos 0 <ℤ b → q ≡ quotient_floor a b → a <ℤ ((q +ℤ pos 1) *ℤ b)
next_product_gt_at a b q h e = rw e ((quotient_floor-is a b h).next_product_gt)

pub int_div_euclid-floor : (a b : ℤ) → pos 0 <ℤ b → int_div_euclid a b ≡ quotient_floor a b
int_div_euclid-floor (pos a) (pos b) h = refl
int_div_euclid-floor (negsuc a) (pos b) h = refl
int_div_euclid-floor (pos a) (negsuc b) h = absurd (omega (arith, ints))
int_div_euclid-floor (negsuc a) (negsuc b) h = absurd (omega (arith, ints))

-- ---- the quotient rounded up, from the remainder
factor_order : (x y k : ℕ) → x * k < y * k → x < y
factor_order x y k h = grind arith

-- a positive factor on both sides keeps an order of products to an order of the factors
pub below_factor : (p q b : ℤ) → pos 0 <ℤ b → (p *ℤ b) <ℤ (q *ℤ b) → p <ℤ q
below_factor p q (pos k) h g = let parts : (up p + down q) * k < (up q + down p) * k = omega (arith, ints) in let order = factor_order (up p + down q) (up q + down p) k parts in omega (arith, ints)
below_factor p q (negsuc k) h g = absurd (omega (arith, ints))

pub quotient_ceiling-unique : (a b p q : ℤ) → pos 0 <ℤ b → IsQuotientCeiling a b p → IsQuotientCeiling a b q → p ≡ q
quotient_ceiling-unique a b p q h x y =
    let first = below_factor (p -ℤ pos 1) q b h (omega (arith, ints, x.previous_product_lt, y.product_ge)) in
    let second = below_factor (q -ℤ pos 1) p b h (omega (arith, ints, y.previous_product_lt, x.product_ge)) in
    omega (arith, ints)

-- what the quotient leaves
pub quotient_floor-rem : (a b : ℤ) → pos 0 <ℤ b → a ≡ quotient_floor a b *ℤ b +ℤ int_rem_euclid a b
quotient_floor-rem (pos a) (pos b) h = omega (arith, ints)
quotient_floor-rem (negsuc a) (pos b) h = omega (arith, ints)
quotient_floor-rem (pos a) (negsuc b) h = absurd (omega (arith, ints))
quotient_floor-rem (negsuc a) (negsuc b) h = absurd (omega (arith, ints))

rem_bounds : (a b : ℤ) → pos 0 <ℤ b → (pos 0 ≤ℤ int_rem_euclid a b) × (int_rem_euclid a b <ℤ b)
rem_bounds (pos a) (pos b) h = omega (arith, ints)
rem_bounds (negsuc a) (pos b) h = omega (arith, ints)
rem_bounds (pos a) (negsuc b) h = absurd (omega (arith, ints))
rem_bounds (negsuc a) (negsuc b) h = absurd (omega (arith, ints))

pub ceil_when_exact : (a b q : ℤ) → pos 0 <ℤ b → q ≡ quotient_floor a b → int_rem_euclid a b ≡ pos 0 → IsQuotientCeiling a b q
ceil_when_exact a b q h e r =
    let law : a ≡ q *ℤ b +ℤ pos 0 = rw e (rw r at (quotient_floor-rem a b h)) in
    record { product_ge = omega (arith, ints, products); previous_product_lt = omega (arith, ints, products) }

pub ceil_when_left : (a b q : ℤ) → pos 0 <ℤ b → q ≡ quotient_floor a b → ¬ (int_rem_euclid a b ≡ pos 0) → IsQuotientCeiling a b (q +ℤ pos 1)
ceil_when_left a b q h e r =
    let law : a ≡ q *ℤ b +ℤ int_rem_euclid a b = rw e (quotient_floor-rem a b h) in
    let bounds = rem_bounds a b h in
    record { product_ge = omega (arith, ints, products); previous_product_lt = omega (arith, ints, products) }
