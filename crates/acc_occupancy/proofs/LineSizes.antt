-- How large the numbers of a line can be.
use Rattle.std.proofs.Common.{◌≡◌, ℕ, ◌*◌, ◌≤◌, arith, ℤ, pos, ◌+ℤ◌, ◌*ℤ◌, ◌-◌, mul-le-mul, FitsSigned, w64, to_z, of_z, to_z-of_z}
use Rattle.std.specs.Prelude.{nat_abs}
use Rattle.std.proofs.lemmas.Int.{ints, unsigned_abs-mul}
use Rattle.acc_occupancy.specs.declared.line.Line.{Line}
use Rattle.acc_occupancy.specs.Lines.{IsLineInRange, pairs, half}
use Rattle.acc_occupancy.proofs.Sizes.{half_within}

pub product_within : (k : ℕ) (z : ℤ) (m n : ℕ) → k ≤ m → nat_abs z ≤ n → nat_abs (pos k *ℤ z) ≤ m * n
product_within k z m n h g = rw (unsigned_abs-mul (pos k) z) (mul-le-mul h g)

-- the sums of `risen`: half is that of the rise and the rounding, and sum is 0 + 1 + .. + (k - 1)
pub record RisenFits (l : Line) (k : ℕ) (h p : ℤ) : Type 0 where
  pub place : FitsSigned w64 l.place
  pub speed : FitsSigned w64 l.speed
  pub rise : FitsSigned w64 l.rise
  pub halved : FitsSigned w64 h
  pub paired : FitsSigned w64 p
  pub steady : FitsSigned w64 (l.speed +ℤ h)
  pub way : FitsSigned w64 (pos k *ℤ (l.speed +ℤ h))
  pub first : FitsSigned w64 (l.place +ℤ pos k *ℤ (l.speed +ℤ h))
  pub more : FitsSigned w64 (p *ℤ l.rise)
  pub whole : FitsSigned w64 (l.place +ℤ pos k *ℤ (l.speed +ℤ h) +ℤ p *ℤ l.rise)
  pub size : nat_abs (l.place +ℤ pos k *ℤ (l.speed +ℤ h) +ℤ p *ℤ l.rise) ≤ 40_400_000_000_000

pairs_small : (k : ℕ) → k ≤ 100_000 → pairs k ≤ 5_000_000_000
pairs_small k h = let less : k - 1 ≤ 100_000 = omega arith in let product : k * (k - 1) ≤ 100_000 * 100_000 = mul-le-mul h less in omega (arith, product)

-- the half that the code makes
pub half_read : (l : Line) (h : ℤ) → IsLineInRange l → h ≡ half (to_z w64 (of_z w64 (to_z w64 (of_z w64 l.rise) +ℤ to_z w64 (of_z w64 l.rounding)))) → h ≡ half (l.rise +ℤ l.rounding)
half_read l h r e =
    let rise_low = r.rise.low in
    let rise_high = r.rise.high in
    let rounding_low = r.rounding.low in
    let rounding_high = r.rounding.high in
    let rise_fits : FitsSigned w64 l.rise = omega (arith, ints) in
    let rounding_fits : FitsSigned w64 l.rounding = omega (arith, ints) in
    let sum_fits : FitsSigned w64 (l.rise +ℤ l.rounding) = omega (arith, ints) in
    simp to_z-of_z at e

pub risen_fits : (l : Line) (k : ℕ) (h p : ℤ) → IsLineInRange l → k ≤ 100_000 → h ≡ half (l.rise +ℤ l.rounding) → p ≡ pos (pairs k) → RisenFits l k h p
risen_fits l k h p r few e d =
    let few_pairs = pairs_small k few in
    let small : nat_abs p ≤ 5_000_000_000 = rw d few_pairs in
    let place_small = r.place in
    let speed_small = r.speed in
    let rise_low = r.rise.low in
    let rise_high = r.rise.high in
    let rounding_low = r.rounding.low in
    let rounding_high = r.rounding.high in
    let h_small : nat_abs h ≤ 21 = rw e (half_within (l.rise +ℤ l.rounding) 21 (omega (arith, ints))) in
    let steady_small : nat_abs (l.speed +ℤ h) ≤ 2_000_000 = omega (arith, ints) in
    let way_small : nat_abs (pos k *ℤ (l.speed +ℤ h)) ≤ 100_000 * 2_000_000 = product_within k (l.speed +ℤ h) 100_000 2_000_000 few steady_small in
    let more_small : nat_abs (p *ℤ l.rise) ≤ 5_000_000_000 * 40 = rw d (product_within (pairs k) l.rise 5_000_000_000 40 few_pairs (omega (arith, ints))) in
    record {
      place = omega (arith, ints);
      speed = omega (arith, ints);
      rise = omega (arith, ints);
      halved = omega (arith, ints);
      paired = omega (arith, ints);
      steady = omega (arith, ints);
      way = omega (arith, ints);
      first = omega (arith, ints);
      more = omega (arith, ints);
      whole = omega (arith, ints);
      size = omega (arith, ints);
    }
