use Rattle.std.proofs.Common.{◌≡◌, ◌≤◌, ◌-ℤ◌, pos, length, get_or, arith, w64, to_z-of_z, FitsSigned, rules, true}
use Rattle.std.proofs.lemmas.Int.{ints}
use Rattle.std.specs.Prelude.{nat_abs}
use lib.Signed.{le_z}
use Rattle.convex_poly.proofs.OctRuns.{number_size, row_tests}
use Rattle.convex_poly.proofs.oct_numbers.has_rows.Goals as goal

pub returns-then-high-n : goal.returns-then-high-n
returns-then-high-n c =
    let eight : length c.args.n.now ≡ 8 = search rules in
    let size2 : nat_abs (get_or c.args.n.now 2 (pos 0)) ≤ 100000000000000 = number_size c.args.n.now 2 c.requires.numbers (omega arith) in
    let fits2 : FitsSigned w64 (get_or c.args.n.now 2 (pos 0)) = omega (arith, ints, size2) in
    let size6 : nat_abs (get_or c.args.n.now 6 (pos 0)) ≤ 100000000000000 = number_size c.args.n.now 6 c.requires.numbers (omega arith) in
    let fits6 : FitsSigned w64 (get_or c.args.n.now 6 (pos 0)) = omega (arith, ints, size6) in
    let low : FitsSigned w64 c.args.low = c.ranges.low in
    let high : FitsSigned w64 c.args.high = c.ranges.high in
    let low_size : nat_abs c.args.low ≤ 40000000000000 = c.requires.low in
    let south : FitsSigned w64 (pos 0 -ℤ c.args.low) = omega (arith, ints) in
    let north : le_z c.args.high (get_or c.args.n.now 2 (pos 0)) ≡ true = simp to_z-of_z at c.if-high-n.true in
    simp to_z-of_z (row_tests c.args.high (get_or c.args.n.now 2 (pos 0)) (pos 0 -ℤ c.args.low) (get_or c.args.n.now 6 (pos 0)) north)
