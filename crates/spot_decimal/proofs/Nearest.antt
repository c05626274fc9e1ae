-- The nearest whole number to a quotient, by its whole tenths.
use Rattle.std.proofs.Common.{ℕ, ◌+◌, ◌*◌, ◌/◌, ◌<◌, ◌≤◌, arith}
use Rattle.std.proofs.Math.Nat.{mul-le-mul_left}
use Rattle.spot_decimal.specs.Written.{IsNearest}

-- t is the whole part of ten times n / d
pub record IsTenths (n d t : ℕ) : Type 0 where
  pub low : t * d ≤ 10 * n
  pub high : 10 * n < (t + 1) * d

-- with q the whole part of (t + 5) / 10
nearest_by : (n d t q : ℕ) → 10 * q ≤ t + 5 → t + 6 ≤ 10 * q + 10 → IsTenths n d t → IsNearest n d q
nearest_by n d t q a b h =
    let low : d * (10 * q) ≤ d * (t + 5) = mul-le-mul_left d a in
    let high : d * (t + 6) ≤ d * (10 * q + 10) = mul-le-mul_left d b in
    record { low = omega (arith, low, h.low); high = omega (arith, high, h.high) }

pub nearest_tenths : (n d t : ℕ) → IsTenths n d t → IsNearest n d ((t + 5) / 10)
nearest_tenths n d t h = nearest_by n d t ((t + 5) / 10) (omega arith) (omega arith) h
