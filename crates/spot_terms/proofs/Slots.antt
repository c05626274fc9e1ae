-- Slots of one width: their order, the places in them, and that a place lies in one alone.
use Rattle.std.proofs.Common.{◌≡◌, refl, subst, arith}
use Rattle.std.proofs.lemmas.Int.{ints}
use lib.IntN.{ℤ, pos, ◌+ℤ◌, ◌*ℤ◌}
use lib.Signed.{◌≤ℤ◌, ◌<ℤ◌}
use Rattle.spot_terms.specs.Grid.{slot, slot_low, slot_high}
use Rattle.spot_terms.specs.Whole.{Within}
use Rattle.spot_terms.proofs.Orders.{at_most_below, at_most_trans, below_next}
use Rattle.spot_terms.proofs.Quotients.{product_le_at, next_product_gt_at, below_factor}
use Rattle.spot_terms.proofs.Ring.{spread_left}

-- the width of a grid is above 0
pub some_width : (w : ℤ) → Within (pos 100_000) (pos 100_000_000) w → pos 0 <ℤ w
some_width w h = omega (arith, ints, h.low)

-- slots are in the order of their places
pub slots_rise : (w a b : ℤ) → pos 0 <ℤ w → a ≤ℤ b → slot w a ≤ℤ slot w b
slots_rise w a b wide h =
    let low = product_le_at a w (slot w a) wide refl in
    let high = next_product_gt_at b w (slot w b) wide refl in
    below_next (slot w a) (slot w b) (below_factor (slot w a) (slot w b +ℤ pos 1) w wide (at_most_below (slot w a *ℤ w) b ((slot w b +ℤ pos 1) *ℤ w) (at_most_trans (slot w a *ℤ w) a b low h) high))

-- a place lies in its slot
pub slot_holds : (w x : ℤ) → pos 0 <ℤ w → Within (slot_low w (slot w x)) (slot_high w (slot w x)) x
slot_holds w x wide = record {
  low = product_le_at x w (slot w x) wide refl;
  high = let k = next_product_gt_at x w (slot w x) wide refl in omega (arith, ints, spread_left (slot w x) (pos 1) w);
}

pub place_in_slot : (w x c : ℤ) → pos 0 <ℤ w → slot w x ≡ c → Within (slot_low w c) (slot_high w c) x
place_in_slot w x c wide e = subst (λ (z : ℤ). Within (slot_low w z) (slot_high w z) x) e (slot_holds w x wide)

-- two slots that hold one place are one
pub one_slot : (w c d x : ℤ) → pos 0 <ℤ w → Within (slot_low w c) (slot_high w c) x → Within (slot_low w d) (slot_high w d) x → c ≡ d
one_slot w c d x p a e =
    let cd : c <ℤ (d +ℤ pos 1) = below_factor c (d +ℤ pos 1) w p (omega (arith, ints, a.low, e.high, spread_left d (pos 1) w)) in
    let dc : d <ℤ (c +ℤ pos 1) = below_factor d (c +ℤ pos 1) w p (omega (arith, ints, e.low, a.high, spread_left c (pos 1) w)) in
    omega (arith, ints, cd, dc)
