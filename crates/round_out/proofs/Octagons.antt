-- The octagon of a disc by its two reaches.
use Rattle.std.proofs.Common.{◌≡◌, ℕ, ◌≤◌, refl, arith, pos, ℤ, ◌+ℤ◌, ◌-ℤ◌, nat_abs, ◌<◌}
use Rattle.std.proofs.lemmas.Int.{ints}
use Rattle.spot_terms.specs.Reach.{normal_at, minus_one, along, disc_number, disc_numbers}
use Rattle.spot_terms.specs.declared.plain.Pt.{Pt}
use Rattle.spot_terms.proofs.Normals.{normal_at-included, along-east, along-north_east, along-north, along-north_west, along-west, along-south_west, along-south, along-south_east}
use Rattle.round_out.specs.Octagons.{numbers_about}
use Rattle.round_out.proofs.Discs.{disc_number_le}

pub disc_numbers-is : (p : Pt) (r : ℕ) (axis diagonal : ℤ) → axis ≡ pos (disc_number (normal_at 0) r) → diagonal ≡ pos (disc_number (normal_at 1) r)
    → numbers_about p axis diagonal ≡ disc_numbers p r
unfolding disc_numbers disc_number
disc_numbers-is p r axis diagonal e d =
    let e0 : p.x +ℤ axis ≡ along (pos 1, pos 0) p +ℤ axis = omega (arith, ints, along-east p) in
    let e1 : p.x +ℤ p.y +ℤ diagonal ≡ along (pos 1, pos 1) p +ℤ diagonal = omega (arith, ints, along-north_east p) in
    let e2 : p.y +ℤ axis ≡ along (pos 0, pos 1) p +ℤ axis = omega (arith, ints, along-north p) in
    let e3 : diagonal -ℤ (p.x -ℤ p.y) ≡ along (minus_one, pos 1) p +ℤ diagonal = omega (arith, ints, along-north_west p) in
    let e4 : axis -ℤ p.x ≡ along (minus_one, pos 0) p +ℤ axis = omega (arith, ints, along-west p) in
    let e5 : diagonal -ℤ (p.x +ℤ p.y) ≡ along (minus_one, minus_one) p +ℤ diagonal = omega (arith, ints, along-south_west p) in
    let e6 : axis -ℤ p.y ≡ along (pos 0, minus_one) p +ℤ axis = omega (arith, ints, along-south p) in
    let e7 : p.x -ℤ p.y +ℤ diagonal ≡ along (pos 1, minus_one) p +ℤ diagonal = omega (arith, ints, along-south_east p) in
    rw (e0, e1, e2, e3, e4, e5, e6, e7, e, d) refl

-- a reach is small
pub reach_small : (k r : ℕ) (z : ℤ) → k < 8 → r ≤ 400_000_000 → z ≡ pos (disc_number (normal_at k) r) → nat_abs z ≤ 800_000_000
reach_small k r z h small e =
    let most = disc_number_le (normal_at k) r (omega arith) (normal_at-included k h) in
    omega (arith, ints)
