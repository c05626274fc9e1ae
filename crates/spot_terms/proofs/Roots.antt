-- The computed roots are the roots.
use Rattle.std.proofs.Common.{◌≡◌, ℕ, zero, suc, ◌+◌, ◌*◌, ◌^◌, ◌<◌, ◌≤◌, ◌==◌, Bool, true, false, refl, arith, add_assoc, mul-le-mul}
use Rattle.std.specs.Prelude.{nat_le, if◌then◌else◌}
use Rattle.std.proofs.Math.Nat.{two-pow-succ}
use Rattle.std.proofs.lemmas.Bool.Decides.{nat_tests}
use Rattle.spot_terms.specs.Whole.{IsRootFloor, IsRootCeiling, root_bits, root_floor, root_ceiling, RootsAre}

-- one bit: it stays where the square stays at most n
root_step : (t : Bool) (b r n : ℕ) → nat_le ((r + 2 ^ b) * (r + 2 ^ b)) n ≡ t → r * r ≤ n → n < (r + 2 ^ suc b) * (r + 2 ^ suc b)
    → (((if t then r + 2 ^ b else r) * (if t then r + 2 ^ b else r)) ≤ n) × (n < ((if t then r + 2 ^ b else r) + 2 ^ b) * ((if t then r + 2 ^ b else r) + 2 ^ b))
root_step true b r n e low high = (grind (arith, nat_tests), rw (two-pow-succ b, ← add_assoc r (2 ^ b) (2 ^ b)) at high)
root_step false b r n e low high = (low, grind (arith, nat_tests))

root_bits-is : (b r n : ℕ) → r * r ≤ n → n < (r + 2 ^ b) * (r + 2 ^ b) → IsRootFloor n (root_bits b r n)
root_bits-is zero r n low high = record { low = low; high = high }
root_bits-is (suc b) r n low high = let k = root_step (nat_le ((r + 2 ^ b) * (r + 2 ^ b)) n) b r n refl low high in root_bits-is b _ n k.0 k.1

pub root_floor-is : (n : ℕ) → n < 2 ^ 128 → IsRootFloor n (root_floor n)
unfolding root_floor
root_floor-is n h = root_bits-is 64 0 n (omega arith) (omega (arith, h))

-- a number whose square is below the next square is at most the root
pub root_order : (n q r : ℕ) → r * r ≤ n → n < (q + 1) * (q + 1) → r ≤ q
root_order n q r low high = grind (arith, mul-le-mul)

-- there is one root
pub IsRootFloor-unique : (n q r : ℕ) → IsRootFloor n q → IsRootFloor n r → q ≡ r
IsRootFloor-unique n q r a b = omega (arith, root_order n q r b.low a.high, root_order n r q a.low b.high)

pub root_floor-unique : (n r : ℕ) → n < 2 ^ 128 → r * r ≤ n → n < (r + 1) * (r + 1) → r ≡ root_floor n
root_floor-unique n r h low high = IsRootFloor-unique n r (root_floor n) (record { low = low; high = high }) (root_floor-is n h)

exact_ceiling : (n r : ℕ) → r * r ≡ n → (q : ℕ) → n ≤ q * q → r ≤ q
exact_ceiling n r e q h = grind (arith, mul-le-mul)

next_ceiling : (n r : ℕ) → r * r < n → n < (r + 1) * (r + 1) → IsRootCeiling n (r + 1)
next_ceiling n r low high = record { enough = omega (arith, high); least = λ q h. grind (arith, mul-le-mul) }

ceiling_step : (t : Bool) (n r : ℕ) → (((r * r) == n) ≡ t) → IsRootFloor n r → IsRootCeiling n (if t then r else r + 1)
ceiling_step true n r e h = let same : r * r ≡ n = grind (arith, nat_tests) in record { enough = omega (arith, same); least = exact_ceiling n r same }
ceiling_step false n r e h = let low = h.low in let high = h.high in next_ceiling n r (grind (arith, nat_tests)) high

pub root_ceiling-is : (n : ℕ) → n < 2 ^ 128 → IsRootCeiling n (root_ceiling n)
unfolding root_ceiling
root_ceiling-is n h = ceiling_step ((root_floor n * root_floor n) == n) n (root_floor n) refl (root_floor-is n h)

pub roots_are : RootsAre
roots_are = record { floor = root_floor-is; ceiling = root_ceiling-is }
