use Rattle.std.proofs.Common.{◌≡◌, ◌≤◌, ◌+ℤ◌, arith, to_z-of_z, FitsSigned, w64, refl}
use Rattle.std.specs.Prelude.{nat_abs}
use Rattle.std.proofs.lemmas.Int.{ints}
use Rattle.acc_occupancy.specs.Lines.{half, capped_way}
use Rattle.acc_occupancy.proofs.Sizes.{half_within}
use Rattle.acc_occupancy.proofs.line.Line.capped.Goals as goal
use Rattle.acc_occupancy.proofs.line.Line.capped.Goals.{After-half}

half_is : (c : After-half) → c.half.result ≡ half c.args.self.now.rounding
half_is c =
    let rounding = c.requires.rounding in
    let rounding_fits : FitsSigned w64 c.args.self.now.rounding = omega (arith, ints) in
    simp to_z-of_z at c.half.ensures.value

half_small : (c : After-half) → nat_abs c.half.result ≤ 1
half_small c = let rounding = c.requires.rounding in rw (half_is c) (half_within c.args.self.now.rounding 1 (omega (arith, ints)))

pub returns-clause-value : goal.returns-clause-value
unfolding capped_way
returns-clause-value c =
    let d : After-half = (goal.at.returns-clause-value c).After-half in
    let small = half_small d in
    let cap = c.requires.cap in
    let half_fits : FitsSigned w64 c.half.result = omega (arith, ints) in
    let cap_fits : FitsSigned w64 c.args.self.now.cap = omega (arith, ints) in
    let sum_fits : FitsSigned w64 (c.args.self.now.cap +ℤ c.half.result) = omega (arith, ints) in
    simp to_z-of_z (rw (half_is d) refl)

pub returns-clause-size : goal.returns-clause-size
returns-clause-size c =
    let small = half_small (goal.at.returns-clause-size c).After-half in
    let cap = c.requires.cap in
    omega (arith, ints)
