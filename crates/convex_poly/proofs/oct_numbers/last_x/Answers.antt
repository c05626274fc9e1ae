use Rattle.std.proofs.Common.{◌≡◌, ◌∙◌, ap, ◌≤◌, ◌-ℤ◌, ◌+ℤ◌, pos, length, get_or, arith, w64, to_z-of_z, FitsSigned, rules}
use Rattle.std.proofs.lemmas.Int.{ints}
use Rattle.std.specs.Int.{int_min}
use Rattle.std.specs.Prelude.{nat_abs}
use Rattle.convex_poly.proofs.OctRuns.{number_size, min_three}
use Rattle.convex_poly.proofs.oct_numbers.last_x.Goals as goal

pub overflow_add-n : goal.overflow_add-n
overflow_add-n c =
    let eight : length c.args.n.now ≡ 8 = search rules in
    let size7 : nat_abs (get_or c.args.n.now 7 (pos 0)) ≤ 100000000000000 = number_size c.args.n.now 7 c.requires.numbers (omega arith) in
    let fits7 : FitsSigned w64 (get_or c.args.n.now 7 (pos 0)) = omega (arith, ints, size7) in
    let low_size : nat_abs c.args.low ≤ 40000000000000 = c.requires.low in
    omega (arith, ints)

pub returns : goal.returns
returns c x =
    let eight : length c.args.n.now ≡ 8 = search rules in
    let size0 : nat_abs (get_or c.args.n.now 0 (pos 0)) ≤ 100000000000000 = number_size c.args.n.now 0 c.requires.numbers (omega arith) in
    let fits0 : FitsSigned w64 (get_or c.args.n.now 0 (pos 0)) = omega (arith, ints, size0) in
    let size1 : nat_abs (get_or c.args.n.now 1 (pos 0)) ≤ 100000000000000 = number_size c.args.n.now 1 c.requires.numbers (omega arith) in
    let fits1 : FitsSigned w64 (get_or c.args.n.now 1 (pos 0)) = omega (arith, ints, size1) in
    let size7 : nat_abs (get_or c.args.n.now 7 (pos 0)) ≤ 100000000000000 = number_size c.args.n.now 7 c.requires.numbers (omega arith) in
    let fits7 : FitsSigned w64 (get_or c.args.n.now 7 (pos 0)) = omega (arith, ints, size7) in
    let low : FitsSigned w64 c.args.low = c.ranges.low in
    let high : FitsSigned w64 c.args.high = c.ranges.high in
    let low_size : nat_abs c.args.low ≤ 40000000000000 = c.requires.low in
    let high_size : nat_abs c.args.high ≤ 40000000000000 = c.requires.high in
    let north : FitsSigned w64 (get_or c.args.n.now 1 (pos 0) -ℤ c.args.high) = omega (arith, ints) in
    let south : FitsSigned w64 (get_or c.args.n.now 7 (pos 0) +ℤ c.args.low) = omega (arith, ints) in
    let one : FitsSigned w64 c.min.result = record { sfits = c.min.type_inv } in
    let all : FitsSigned w64 c.min-2.result = record { sfits = c.min-2.type_inv } in
    let two : c.min.result ≡ int_min (get_or c.args.n.now 0 (pos 0)) (get_or c.args.n.now 1 (pos 0) -ℤ c.args.high) = simp to_z-of_z at c.min.ensures.value in
    let three : c.min-2.result ≡ int_min c.min.result (get_or c.args.n.now 7 (pos 0) +ℤ c.args.low) = simp to_z-of_z at c.min-2.ensures.value in
    simp to_z-of_z (min_three (get_or c.args.n.now 0 (pos 0)) (get_or c.args.n.now 1 (pos 0) -ℤ c.args.high) (get_or c.args.n.now 7 (pos 0) +ℤ c.args.low) c.min-2.result x (three ∙ ap (λ z. int_min z (get_or c.args.n.now 7 (pos 0) +ℤ c.args.low)) two))
