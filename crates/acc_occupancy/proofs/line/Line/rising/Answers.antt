use Rattle.std.proofs.Common.{◌≡◌, ◌-ℤ◌, ◌∙◌, pos, arith, to_z-of_z, FitsSigned, w64, refl}
use Rattle.std.specs.Int.{int_div_euclid, int_max}
use Rattle.std.proofs.lemmas.Int.{ints}
use Rattle.spot_terms.specs.Whole.{quotient_floor}
use Rattle.spot_terms.proofs.Quotients.{int_div_euclid-floor}
use Rattle.acc_occupancy.proofs.Rows.{rising_is, rising_small}
use Rattle.acc_occupancy.proofs.line.Line.rising.Goals as goal
use Rattle.acc_occupancy.proofs.line.Line.rising.Goals.{After-max}

value : (c : After-max) → c.max.result ≡ int_max (quotient_floor (c.args.self.now.cap -ℤ c.args.self.now.speed) c.args.self.now.rise) (pos 0)
value c =
    let range = c.requires in
    let speed_fits : FitsSigned w64 c.args.self.now.speed = omega (arith, ints) in
    let cap_fits : FitsSigned w64 c.args.self.now.cap = omega (arith, ints) in
    let rise_fits : FitsSigned w64 c.args.self.now.rise = omega (arith, ints) in
    let gap_fits : FitsSigned w64 (c.args.self.now.cap -ℤ c.args.self.now.speed) = omega (arith, ints) in
    let quotient : c.div_euclid.result ≡ int_div_euclid (c.args.self.now.cap -ℤ c.args.self.now.speed) c.args.self.now.rise = simp to_z-of_z at c.div_euclid.ensures in
    let floor = int_div_euclid-floor (c.args.self.now.cap -ℤ c.args.self.now.speed) c.args.self.now.rise (omega (arith, ints)) in
    let quotient_fits : FitsSigned w64 c.div_euclid.result = omega (arith, ints) in
    let bounded : c.max.result ≡ int_max c.div_euclid.result (pos 0) = simp to_z-of_z at c.max.ensures.value in
    bounded ∙ rw (quotient, floor) refl

pub overflow_cast-result : goal.overflow_cast-result
overflow_cast-result c = let same = value (goal.at.overflow_cast-result c).After-max in let small = rising_small c.args.self.now c.max.result c.requires same in omega (arith, ints)

pub returns : goal.returns
returns c =
    let same = value (goal.at.returns c).After-max in
    let small = rising_small c.args.self.now c.max.result c.requires same in
    let fits : FitsSigned w64 c.max.result = omega (arith, ints) in
    simp to_z-of_z (rising_is c.args.self.now c.max.result c.requires same)
