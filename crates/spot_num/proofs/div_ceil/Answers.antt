use Rattle.std.proofs.Common.{rules, ◌≡◌, pos, ◌+ℤ◌, arith, to_z-of_z, FitsSigned, ap, of_z, ◌∙◌}
use Rattle.std.proofs.lemmas.Int.{ints}
use Rattle.std.specs.Int.{w128, int_rem_euclid}
use Rattle.spot_terms.specs.Whole.{quotient_floor}
use Rattle.spot_terms.proofs.Quotients.{IsQuotientCeiling, ceil_when_exact, ceil_when_left, quotient_ceiling-is, quotient_ceiling-unique}
use Rattle.spot_num.proofs.div_ceil.Goals as goal
use Rattle.spot_num.proofs.div_ceil.Goals.{Then-rem_euclid-eq0, Else-rem_euclid-eq0}

exact : (c : Then-rem_euclid-eq0) → IsQuotientCeiling c.args.a c.args.b c.div_floor-quotient.result
exact c =
    let fits_a : FitsSigned w128 c.args.a = c.ranges.a in
    let fits_b : FitsSigned w128 c.args.b = c.ranges.b in
    let value : c.div_floor-quotient.result ≡ quotient_floor c.args.a c.args.b = simp to_z-of_z at c.div_floor-quotient.ensures.value in
    let rem : c.rem_euclid.result ≡ int_rem_euclid c.args.a c.args.b = simp to_z-of_z at c.rem_euclid.ensures.value in
    let zero : c.rem_euclid.result ≡ pos 0 = omega (arith, ints) in
    ceil_when_exact c.args.a c.args.b c.div_floor-quotient.result c.requires value (rw rem at zero)

left : (c : Else-rem_euclid-eq0) → IsQuotientCeiling c.args.a c.args.b (c.div_floor-quotient.result +ℤ pos 1)
left c =
    let fits_a : FitsSigned w128 c.args.a = c.ranges.a in
    let fits_b : FitsSigned w128 c.args.b = c.ranges.b in
    let value : c.div_floor-quotient.result ≡ quotient_floor c.args.a c.args.b = simp to_z-of_z at c.div_floor-quotient.ensures.value in
    let rem : c.rem_euclid.result ≡ int_rem_euclid c.args.a c.args.b = simp to_z-of_z at c.rem_euclid.ensures.value in
    ceil_when_left c.args.a c.args.b c.div_floor-quotient.result c.requires value (λ e. c.if-rem_euclid-eq0.false (ap (of_z w128) (rem ∙ e)))

pub returns-then-rem_euclid-eq0-clause-previous_product_lt : goal.returns-then-rem_euclid-eq0-clause-previous_product_lt
returns-then-rem_euclid-eq0-clause-previous_product_lt c =
    let fits : FitsSigned w128 c.div_floor-quotient.result = search rules in
    simp to_z-of_z ((exact c).previous_product_lt)

pub returns-then-rem_euclid-eq0-clause-value : goal.returns-then-rem_euclid-eq0-clause-value
returns-then-rem_euclid-eq0-clause-value c =
    let fits : FitsSigned w128 c.div_floor-quotient.result = search rules in
    simp to_z-of_z (quotient_ceiling-unique _ _ _ _ c.requires (exact c) (quotient_ceiling-is _ _ c.requires))

pub returns-else-rem_euclid-eq0-clause-product_ge : goal.returns-else-rem_euclid-eq0-clause-product_ge
returns-else-rem_euclid-eq0-clause-product_ge c =
    let fits : FitsSigned w128 c.div_floor-quotient.result = search rules in
    let fits_next : FitsSigned w128 (c.div_floor-quotient.result +ℤ pos 1) = search rules in
    simp to_z-of_z ((left c).product_ge)

pub returns-else-rem_euclid-eq0-clause-previous_product_lt : goal.returns-else-rem_euclid-eq0-clause-previous_product_lt
returns-else-rem_euclid-eq0-clause-previous_product_lt c =
    let fits : FitsSigned w128 c.div_floor-quotient.result = search rules in
    let fits_next : FitsSigned w128 (c.div_floor-quotient.result +ℤ pos 1) = search rules in
    simp to_z-of_z ((left c).previous_product_lt)

pub returns-else-rem_euclid-eq0-clause-value : goal.returns-else-rem_euclid-eq0-clause-value
returns-else-rem_euclid-eq0-clause-value c =
    let fits : FitsSigned w128 c.div_floor-quotient.result = search rules in
    let fits_next : FitsSigned w128 (c.div_floor-quotient.result +ℤ pos 1) = search rules in
    simp to_z-of_z (quotient_ceiling-unique _ _ _ _ c.requires (left c) (quotient_ceiling-is _ _ c.requires))
