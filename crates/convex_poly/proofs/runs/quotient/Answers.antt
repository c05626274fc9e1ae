use Rattle.std.proofs.Common.{◌≡◌, subst, w64, to_z-of_z, FitsSigned}
use Rattle.std.specs.Int.{w128}
use Rattle.spot_terms.specs.Whole.{quotient_floor}
use Rattle.convex_poly.proofs.RunSteps.{quotient_size, quotient_is}
use Rattle.convex_poly.proofs.runs.quotient.Goals as goal

same : (c : goal.After-div_floor) → c.div_floor.result ≡ quotient_floor c.args.room c.args.rise
same c =
    let room : FitsSigned w128 c.args.room = c.ranges.room in
    let rise : FitsSigned w64 c.args.rise = c.ranges.rise in
    let wide : c.from.result ≡ c.args.rise = simp to_z-of_z at c.from.ensures in
    let fits : FitsSigned w128 c.from.result = record { sfits = c.from.type_inv } in
    subst (λ z. c.div_floor.result ≡ quotient_floor c.args.room z) wide (simp to_z-of_z at c.div_floor.ensures.value)

pub returns-clause-value : goal.returns-clause-value
returns-clause-value c =
    let fits : FitsSigned w128 c.div_floor.result = record { sfits = c.div_floor.type_inv } in
    simp to_z-of_z (quotient_is c.args.room c.args.rise c.div_floor.result c.requires.rise (same c))

pub returns-clause-within : goal.returns-clause-within
returns-clause-within c =
    let fits : FitsSigned w128 c.div_floor.result = record { sfits = c.div_floor.type_inv } in
    simp to_z-of_z (quotient_size c.args.room c.args.rise c.div_floor.result 10000000000000000000000000000 c.requires.room (same c))
