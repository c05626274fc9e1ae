-- A box with the computed sums holds every start velocity.
use Rattle.std.proofs.Common.{◌≡◌, ℕ, suc, ◌*◌, ◌^◌, ◌<◌, ◌≤◌, arith, mul-le-mul_right, ℤ, pos, negsuc, neg_ℤ, ◌+ℤ◌, ◌-ℤ◌, ◌*ℤ◌, ◌≤ℤ◌, ◌<ℤ◌, nat_abs}
use Rattle.std.proofs.lemmas.Int.{ints}
use Rattle.spot_terms.proofs.Products.{products, *ℤ_assoc, times_swap, scaled_order}
use Rattle.spot_terms.proofs.Quotients.{quotient_floor-is, quotient_ceiling-is, below_factor}
use Rattle.spot_terms.specs.Directions.{denominator, factorial, IsWithinOne, least_speed, greatest_speed}
use Rattle.heading.proofs.Terms.{factorial_pos}
use Rattle.heading.proofs.Sums.{IsSumOf}
use Rattle.spot_terms.proofs.Readings.{ten_pos}
use Rattle.spot_terms.proofs.Orders.{negative_times}
use Rattle.spot_terms.proofs.Mixes.{positive_times}

pub denominator_pos : 0 < denominator
unfolding denominator
denominator_pos = positive_times (10 ^ 240) (factorial 40) (ten_pos 240) (factorial_pos 40)

pub opposite : (c p : ℤ) (slack : ℕ) → IsSumOf c p slack → IsSumOf (neg_ℤ c) (neg_ℤ p) slack
opposite c p slack h = record { under = omega (arith, ints, products, h.over); over = omega (arith, ints, products, h.under) }

scaled_by : (n : ℕ) (c p : ℤ) (slack : ℕ) → IsSumOf c p slack → IsSumOf (pos n *ℤ c) (pos n *ℤ p) (n * slack)
scaled_by n c p slack h =
    let e = denominator in
    let left : (pos n *ℤ c) *ℤ pos e ≡ pos n *ℤ (c *ℤ pos e) = *ℤ_assoc (pos n) c (pos e) in
    let right : pos (10 ^ 18) *ℤ (pos n *ℤ p) ≡ pos n *ℤ (pos (10 ^ 18) *ℤ p) = times_swap (pos (10 ^ 18)) (pos n) p in
    let room : pos (n * slack * e) ≡ pos n *ℤ pos (slack * e) = omega (arith, ints) in
    record {
      under = rw (left, right, room) (omega (arith, ints, products, scaled_order n _ _ h.under));
      over = rw (left, right, room) (omega (arith, ints, products, scaled_order n _ _ h.over));
    }

-- the speed's multiple of the two
pub scaled : (s c p : ℤ) (slack : ℕ) → IsSumOf c p slack → IsSumOf (s *ℤ c) (s *ℤ p) (nat_abs s * slack)
scaled (pos n) c p slack h = scaled_by n c p slack h
scaled (negsuc m) c p slack h = rw (negative_times m c, negative_times m p) (opposite _ _ _ (scaled_by (suc m) c p slack h))

-- x = s · c, y = s · p: x / 10^18 is below v + 2 and above v - 2
near : (v x y : ℤ) (e slack : ℕ) → 0 < e → slack ≤ 46_200_000 → (x *ℤ pos e) ≤ℤ (pos (10 ^ 18) *ℤ y +ℤ pos (slack * e)) → (pos (10 ^ 18) *ℤ y) ≤ℤ (x *ℤ pos e +ℤ pos (slack * e)) → nat_abs (v *ℤ pos e -ℤ y) ≤ e → (x <ℤ ((v +ℤ pos 2) *ℤ pos (10 ^ 18))) × (((v -ℤ pos 2) *ℤ pos (10 ^ 18)) <ℤ x)
near v x y e slack p small under over within =
    let little = mul-le-mul_right e small in
    let above : (x *ℤ pos e) <ℤ (((v +ℤ pos 2) *ℤ pos (10 ^ 18)) *ℤ pos e) = rw (*ℤ_assoc (v +ℤ pos 2) (pos (10 ^ 18)) (pos e)) (omega (arith, ints, products)) in
    let below : (((v -ℤ pos 2) *ℤ pos (10 ^ 18)) *ℤ pos e) <ℤ (x *ℤ pos e) = rw (*ℤ_assoc (v -ℤ pos 2) (pos (10 ^ 18)) (pos e)) (omega (arith, ints, products)) in
    let positive : pos 0 <ℤ pos e = omega (arith, ints) in
    (below_factor _ _ (pos e) positive above, below_factor _ _ (pos e) positive below)

pub least_covers : (v s c p : ℤ) → nat_abs s ≤ 200_000 → IsSumOf c p 231 → IsWithinOne v s p → least_speed s c ≤ℤ v
least_covers v s c p small h g =
    let both = scaled s c p 231 h in
    let close = near v (s *ℤ c) (s *ℤ p) denominator (nat_abs s * 231) denominator_pos (omega arith) both.under both.over g in
    let floor = quotient_floor-is (s *ℤ c) (pos (10 ^ 18)) (omega (arith, ints)) in
    omega (arith, ints, products, close.0, floor.product_le)

pub greatest_covers : (v s c p : ℤ) → nat_abs s ≤ 200_000 → IsSumOf c p 231 → IsWithinOne v s p → v ≤ℤ greatest_speed s c
greatest_covers v s c p small h g =
    let both = scaled s c p 231 h in
    let close = near v (s *ℤ c) (s *ℤ p) denominator (nat_abs s * 231) denominator_pos (omega arith) both.under both.over g in
    let ceil = quotient_ceiling-is (s *ℤ c) (pos (10 ^ 18)) (omega (arith, ints)) in
    omega (arith, ints, products, close.1, ceil.product_ge)
