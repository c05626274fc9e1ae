use Rattle.std.proofs.Common.{◌≤◌, ℤ, ◌+ℤ◌, ◌-ℤ◌, arith, to_z-of_z, FitsSigned, nat_abs, w64}
use Rattle.std.proofs.lemmas.Int.{ints}
use Rattle.round_out.proofs.octagon.octagon_about.Goals as goal

fits_sum : (x y d : ℤ) → nat_abs x ≤ 10_000_000_000_000 → nat_abs y ≤ 10_000_000_000_000 → nat_abs d ≤ 800_000_000 → FitsSigned w64 (x +ℤ y +ℤ d)
fits_sum x y d a b e = omega (arith, ints)

fits_difference : (x y d : ℤ) → nat_abs x ≤ 10_000_000_000_000 → nat_abs y ≤ 10_000_000_000_000 → nat_abs d ≤ 800_000_000 → FitsSigned w64 (x -ℤ y +ℤ d)
fits_difference x y d a b e = omega (arith, ints)

fits_less : (x y d : ℤ) → nat_abs x ≤ 10_000_000_000_000 → nat_abs y ≤ 10_000_000_000_000 → nat_abs d ≤ 800_000_000 → FitsSigned w64 (d -ℤ (x -ℤ y))
fits_less x y d a b e = omega (arith, ints)

fits_opposite : (x y d : ℤ) → nat_abs x ≤ 10_000_000_000_000 → nat_abs y ≤ 10_000_000_000_000 → nat_abs d ≤ 800_000_000 → FitsSigned w64 (d -ℤ (x +ℤ y))
fits_opposite x y d a b e = omega (arith, ints)

fits_two : (x y : ℤ) → nat_abs x ≤ 10_000_000_000_000 → nat_abs y ≤ 10_000_000_000_000 → FitsSigned w64 (x +ℤ y) × FitsSigned w64 (x -ℤ y)
fits_two x y a b = (omega (arith, ints), omega (arith, ints))

fits_one : (x m : ℤ) → nat_abs x ≤ 10_000_000_000_000 → FitsSigned w64 x
fits_one x m a = omega (arith, ints)

larger : (d : ℤ) → nat_abs d ≤ 800_000_000 → nat_abs d ≤ 10_000_000_000_000
larger d h = omega arith

pub returns : goal.returns
returns c =
    let x : ℤ = c.args.p.x in
    let y : ℤ = c.args.p.y in
    let axis : ℤ = c.args.axis in
    let diagonal : ℤ = c.args.diagonal in
    let wide_axis = larger axis c.requires.axis in
    let wide_diagonal = larger diagonal c.requires.diagonal in
    let fits_x : FitsSigned w64 x = fits_one x x c.requires.x in
    let fits_y : FitsSigned w64 y = fits_one y y c.requires.y in
    let fits_axis : FitsSigned w64 axis = fits_one axis x wide_axis in
    let fits_diagonal : FitsSigned w64 diagonal = fits_one diagonal x wide_diagonal in
    let fits_xy : FitsSigned w64 (x +ℤ y) = (fits_two x y c.requires.x c.requires.y).0 in
    let fits_x_y : FitsSigned w64 (x -ℤ y) = (fits_two x y c.requires.x c.requires.y).1 in
    let fits_0 : FitsSigned w64 (x +ℤ axis) = (fits_two x axis c.requires.x wide_axis).0 in
    let fits_1 : FitsSigned w64 (x +ℤ y +ℤ diagonal) = fits_sum x y diagonal c.requires.x c.requires.y c.requires.diagonal in
    let fits_2 : FitsSigned w64 (y +ℤ axis) = (fits_two y axis c.requires.y wide_axis).0 in
    let fits_3 : FitsSigned w64 (diagonal -ℤ (x -ℤ y)) = fits_less x y diagonal c.requires.x c.requires.y c.requires.diagonal in
    let fits_4 : FitsSigned w64 (axis -ℤ x) = (fits_two axis x wide_axis c.requires.x).1 in
    let fits_5 : FitsSigned w64 (diagonal -ℤ (x +ℤ y)) = fits_opposite x y diagonal c.requires.x c.requires.y c.requires.diagonal in
    let fits_6 : FitsSigned w64 (axis -ℤ y) = (fits_two axis y wide_axis c.requires.y).1 in
    let fits_7 : FitsSigned w64 (x -ℤ y +ℤ diagonal) = fits_difference x y diagonal c.requires.x c.requires.y c.requires.diagonal in
    simp to_z-of_z
