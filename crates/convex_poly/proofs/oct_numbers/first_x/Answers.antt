use Rattle.std.proofs.Common.{◌≡◌, ◌∙◌, ap, ◌≤◌, ◌-ℤ◌, pos, length, get_or, arith, w64, to_z-of_z, FitsSigned, rules}
use Rattle.std.proofs.lemmas.Int.{ints}
use Rattle.std.specs.Int.{int_max}
use Rattle.std.specs.Prelude.{nat_abs}
use Rattle.convex_poly.proofs.OctRuns.{number_size, max_three}
use Rattle.convex_poly.proofs.oct_numbers.first_x.Goals as goal

pub overflow_sub-n-2 : goal.overflow_sub-n-2
overflow_sub-n-2 c =
    let eight : length c.args.n.now ≡ 8 = search rules in
    let size5 : nat_abs (get_or c.args.n.now 5 (pos 0)) ≤ 100000000000000 = number_size c.args.n.now 5 c.requires.numbers (omega arith) in
    let fits5 : FitsSigned w64 (get_or c.args.n.now 5 (pos 0)) = omega (arith, ints, size5) in
    omega (arith, ints)

pub overflow_sub-n-3 : goal.overflow_sub-n-3
overflow_sub-n-3 c =
    let eight : length c.args.n.now ≡ 8 = search rules in
    let size5 : nat_abs (get_or c.args.n.now 5 (pos 0)) ≤ 100000000000000 = number_size c.args.n.now 5 c.requires.numbers (omega arith) in
    let fits5 : FitsSigned w64 (get_or c.args.n.now 5 (pos 0)) = omega (arith, ints, size5) in
    let low_size : nat_abs c.args.low ≤ 40000000000000 = c.requires.low in
    omega (arith, ints)

pub returns : goal.returns
returns c x =
    let eight : length c.args.n.now ≡ 8 = search rules in
    let size3 : nat_abs (get_or c.args.n.now 3 (pos 0)) ≤ 100000000000000 = number_size c.args.n.now 3 c.requires.numbers (omega arith) in
    let fits3 : FitsSigned w64 (get_or c.args.n.now 3 (pos 0)) = omega (arith, ints, size3) in
    let size4 : nat_abs (get_or c.args.n.now 4 (pos 0)) ≤ 100000000000000 = number_size c.args.n.now 4 c.requires.numbers (omega arith) in
    let fits4 : FitsSigned w64 (get_or c.args.n.now 4 (pos 0)) = omega (arith, ints, size4) in
    let size5 : nat_abs (get_or c.args.n.now 5 (pos 0)) ≤ 100000000000000 = number_size c.args.n.now 5 c.requires.numbers (omega arith) in
    let fits5 : FitsSigned w64 (get_or c.args.n.now 5 (pos 0)) = omega (arith, ints, size5) in
    let low : FitsSigned w64 c.args.low = c.ranges.low in
    let high : FitsSigned w64 c.args.high = c.ranges.high in
    let low_size : nat_abs c.args.low ≤ 40000000000000 = c.requires.low in
    let high_size : nat_abs c.args.high ≤ 40000000000000 = c.requires.high in
    let west : FitsSigned w64 (pos 0 -ℤ get_or c.args.n.now 4 (pos 0)) = omega (arith, ints) in
    let north : FitsSigned w64 (c.args.high -ℤ get_or c.args.n.now 3 (pos 0)) = omega (arith, ints) in
    let turned : FitsSigned w64 (pos 0 -ℤ get_or c.args.n.now 5 (pos 0)) = omega (arith, ints) in
    let south : FitsSigned w64 ((pos 0 -ℤ get_or c.args.n.now 5 (pos 0)) -ℤ c.args.low) = omega (arith, ints) in
    let one : FitsSigned w64 c.max.result = record { sfits = c.max.type_inv } in
    let all : FitsSigned w64 c.max-2.result = record { sfits = c.max-2.type_inv } in
    let two : c.max.result ≡ int_max (pos 0 -ℤ get_or c.args.n.now 4 (pos 0)) (c.args.high -ℤ get_or c.args.n.now 3 (pos 0)) = simp to_z-of_z at c.max.ensures.value in
    let three : c.max-2.result ≡ int_max c.max.result ((pos 0 -ℤ get_or c.args.n.now 5 (pos 0)) -ℤ c.args.low) = simp to_z-of_z at c.max-2.ensures.value in
    simp to_z-of_z (max_three (pos 0 -ℤ get_or c.args.n.now 4 (pos 0)) (c.args.high -ℤ get_or c.args.n.now 3 (pos 0)) ((pos 0 -ℤ get_or c.args.n.now 5 (pos 0)) -ℤ c.args.low) c.max-2.result x (three ∙ ap (λ z. int_max z ((pos 0 -ℤ get_or c.args.n.now 5 (pos 0)) -ℤ c.args.low)) two))
