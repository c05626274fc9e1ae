-- How many slots meet a range of places.
use Rattle.std.proofs.Common.{◌≡◌, ◌∙◌, ℕ, ◌≤◌, arith, ap, refl, ℤ, pos, negsuc, ◌+ℤ◌, ◌-ℤ◌, ◌*ℤ◌, ◌≤ℤ◌, ◌<ℤ◌}
use Rattle.std.specs.Prelude.{nat_abs}
use Rattle.std.proofs.lemmas.Int.{ints}
use Rattle.spot_terms.specs.Whole.{Within, count_between, quotient_floor}
use Rattle.spot_terms.proofs.QuotientBounds.{floor_between}
use Rattle.spot_terms.proofs.Quotients.{quotient_floor-is}
use Rattle.spot_terms.proofs.Orders.{natural_of, at_most_trans}

pub record AreSlots (p q : ℤ) : Type 0 where
  pub low : nat_abs q ≤ 400_000_000
  pub high : nat_abs p ≤ 400_000_000
  pub order : q ≤ℤ p

pub slots_are : (w lo hi : ℤ) → Within (pos 100_000) (pos 100_000_000) w → lo ≤ℤ hi → nat_abs lo ≤ 40_000_000_000_000 → nat_abs hi ≤ 40_000_000_000_000 → AreSlots (quotient_floor hi w) (quotient_floor lo w)
slots_are w lo hi h o l u =
    let some : pos 0 <ℤ w = omega (arith, ints, h.low) in
    let low = floor_between lo w (negsuc 399_999_999) (pos 400_000_000) some (least w lo h.low l) (most w lo h.low l) in
    let high = floor_between hi w (negsuc 399_999_999) (pos 400_000_000) some (least w hi h.low u) (most w hi h.low u) in
    let is = quotient_floor-is lo w some in
    let order = floor_between hi w (quotient_floor lo w) (pos 400_000_000) some (at_most_trans _ lo hi is.product_le o) (most w hi h.low u) in
    record { low = size _ low.low low.high; high = size _ high.low high.high; order = order.low }
  where
    least : (w z : ℤ) → pos 100_000 ≤ℤ w → nat_abs z ≤ 40_000_000_000_000 → (negsuc 399_999_999 *ℤ w) ≤ℤ z
    least w z h k = omega (arith, ints)

    most : (w z : ℤ) → pos 100_000 ≤ℤ w → nat_abs z ≤ 40_000_000_000_000 → z ≤ℤ (pos 400_000_000 *ℤ w)
    most w z h k = omega (arith, ints)

    size : (z : ℤ) → negsuc 399_999_999 ≤ℤ z → z ≤ℤ pos 400_000_000 → nat_abs z ≤ 400_000_000
    size z h k = omega (arith, ints)

counted : (p q : ℤ) (n : ℕ) → p -ℤ q +ℤ pos 1 ≡ pos n → n ≡ count_between q p
counted p q n e = rw e refl

pub count_is : (p q : ℤ) → q ≤ℤ p → nat_abs (p -ℤ q +ℤ pos 1) ≡ count_between q p
count_is p q h =
    let (n, e) = natural_of (p -ℤ q +ℤ pos 1) (omega (arith, ints, h)) in
    let same : nat_abs (p -ℤ q +ℤ pos 1) ≡ n = ap nat_abs e in
    same ∙ counted p q n e
