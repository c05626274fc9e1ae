use Rattle.std.proofs.Common.{◌≡◌, ◌+ℤ◌, arith, to_z-of_z, FitsSigned, w64, refl}
use Rattle.std.proofs.lemmas.Int.{ints, clamps}
use Rattle.std.specs.Int.{int_max}
use Rattle.acc_occupancy.specs.Lines.{line_number}
use Rattle.acc_occupancy.proofs.line.Line.number.Goals as goal

pub returns : goal.returns
unfolding line_number
returns c =
    let first = c.place_at.ensures.size in
    let last = c.place_at-2.ensures.size in
    let body_low = c.requires.range.body.low in
    let body_high = c.requires.range.body.high in
    let first_fits : FitsSigned w64 c.place_at.result = omega (arith, ints) in
    let last_fits : FitsSigned w64 c.place_at-2.result = omega (arith, ints) in
    let greatest : c.max.result ≡ int_max c.place_at.result c.place_at-2.result = simp to_z-of_z at c.max.ensures.value in
    let greatest_fits : FitsSigned w64 c.max.result = omega (arith, ints, clamps) in
    let body_fits : FitsSigned w64 c.args.self.now.body = omega (arith, ints) in
    let sum_fits : FitsSigned w64 (c.max.result +ℤ c.args.self.now.body) = omega (arith, ints, clamps) in
    simp to_z-of_z (rw (greatest, c.place_at.ensures.value, c.place_at-2.ensures.value) refl)
