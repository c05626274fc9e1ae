-- Newton's steps towards a square root, from above.
use Rattle.std.proofs.Common.{◌≡◌, ℕ, ◌+◌, ◌-◌, ◌*◌, ◌/◌, ◌^◌, ◌<◌, ◌≤◌, ◌⊎◌, inl, inr, arith, subst, mul-le-mul}
use Rattle.std.proofs.Math.Pow.{pow_mono}
use Rattle.std.proofs.lemmas.Nat.{pow-add}
use Rattle.spot_terms.proofs.Readings.{quotient_high}

-- four times a product is at most the square of the sum
mean_up : (a d : ℕ) → 4 * (a * (a + d)) ≤ (a + (a + d)) * (a + (a + d))
mean_up a d = omega arith

mean : (a b : ℕ) → 4 * (a * b) ≤ (a + b) * (a + b)
mean a b = elim (order a b) [
  | inl h ↦ let e : a + (b - a) ≡ b = omega arith in subst (λ (z : ℕ). 4 * (a * z) ≤ (a + z) * (a + z)) e (mean_up a (b - a))
  | inr h ↦ let e : b + (a - b) ≡ a = omega arith in omega (arith, subst (λ (z : ℕ). 4 * (b * z) ≤ (b + z) * (b + z)) e (mean_up b (a - b)))
]
  where
    order : (a b : ℕ) → (a ≤ b) ⊎ (b ≤ a)
    order a b = grind arith

-- half the sum of r and of a quotient by r, rounded down, isn't below the root
pub below_step : (n r q m : ℕ) → n < (q + 1) * r → r + q ≤ 2 * m + 1 → n < (m + 1) * (m + 1)
below_step n r q m h s =
    let square : (r + (q + 1)) * (r + (q + 1)) ≤ (2 * m + 2) * (2 * m + 2) = mul-le-mul small small in
    omega (arith, mean r (q + 1), square)
  where
    small : r + (q + 1) ≤ 2 * m + 2
    small = omega arith

pub step_above : (n r : ℕ) → 0 < r → n < ((r + n / r) / 2 + 1) * ((r + n / r) / 2 + 1)
step_above n r h = below_step n r (n / r) ((r + n / r) / 2) (quotient_high n r h) (omega arith)

-- a power of two above the root
pub power_above : (n l : ℕ) → n < 2 * 2 ^ l → n < (2 ^ (l / 2 + 1) + 1) * (2 ^ (l / 2 + 1) + 1)
power_above n l h =
    let half : 2 ^ (l + 1) ≤ 2 ^ ((l / 2 + 1) + (l / 2 + 1)) = pow_mono (omega arith) in
    omega (arith, half, pow-add 2 (l / 2 + 1) (l / 2 + 1), pow-add 2 l 1)

pub power_fits : (l : ℕ) → l < 64 → 2 ^ (l / 2 + 1) ≤ 2 ^ 32
power_fits l h = let few : l / 2 + 1 ≤ 32 = omega arith in pow_mono few
