use Rattle.std.proofs.Common.{◌≡◌, ◌+ℤ◌, ◌-ℤ◌, ℤ, pos, arith, to_z-of_z, FitsSigned, w64}
use Rattle.std.proofs.lemmas.Int.{ints}
use Rattle.spot_terms.specs.Reach.{along, minus_one}
use Rattle.spot_terms.specs.declared.plain.Pt.{Pt}
use Rattle.spot_terms.proofs.Normals.{along-east, along-north_east, along-north, along-north_west, along-west, along-south_west, along-south, along-south_east}
use Rattle.convex_poly.proofs.oct_numbers.places.Goals as goal

pub returns : goal.returns
returns c =
    let x : ℤ = c.args.p.x in
    let y : ℤ = c.args.p.y in
    let small_x = c.requires.x in
    let small_y = c.requires.y in
    let x_fits : FitsSigned w64 x = omega (arith, ints) in
    let y_fits : FitsSigned w64 y = omega (arith, ints) in
    let sum_fits : FitsSigned w64 (x +ℤ y) = omega (arith, ints) in
    let difference_fits : FitsSigned w64 (x -ℤ y) = omega (arith, ints) in
    let west_fits : FitsSigned w64 (pos 0 -ℤ x) = omega (arith, ints) in
    let south_fits : FitsSigned w64 (pos 0 -ℤ y) = omega (arith, ints) in
    let south_west_fits : FitsSigned w64 (pos 0 -ℤ (x +ℤ y)) = omega (arith, ints) in
    let north_west_fits : FitsSigned w64 (pos 0 -ℤ (x -ℤ y)) = omega (arith, ints) in
    let p : Pt = c.args.p in
    let e0 : x ≡ along (pos 1, pos 0) p = omega (arith, ints, along-east p) in
    let e1 : x +ℤ y ≡ along (pos 1, pos 1) p = omega (arith, ints, along-north_east p) in
    let e2 : y ≡ along (pos 0, pos 1) p = omega (arith, ints, along-north p) in
    let e3 : pos 0 -ℤ (x -ℤ y) ≡ along (minus_one, pos 1) p = omega (arith, ints, along-north_west p) in
    let e4 : pos 0 -ℤ x ≡ along (minus_one, pos 0) p = omega (arith, ints, along-west p) in
    let e5 : pos 0 -ℤ (x +ℤ y) ≡ along (minus_one, minus_one) p = omega (arith, ints, along-south_west p) in
    let e6 : pos 0 -ℤ y ≡ along (pos 0, minus_one) p = omega (arith, ints, along-south p) in
    let e7 : x -ℤ y ≡ along (pos 1, minus_one) p = omega (arith, ints, along-south_east p) in
    simp to_z-of_z (cc)
