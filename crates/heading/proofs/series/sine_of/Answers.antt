use Rattle.std.proofs.Common.{◌≡◌, ◌≤◌, ◌*◌, ◌^◌, ◌+◌, neg_ℤ, arith, to_z-of_z, FitsSigned, rules, refl, nat_abs}
use Rattle.std.proofs.lemmas.Int.{ints}
use Rattle.std.specs.Int.{w128, w64}
use Rattle.spot_terms.specs.Directions.{rough_sum}
use Rattle.heading.proofs.Bounds.{sine_sum_within}
use Rattle.spot_terms.proofs.Orders.{opposite_is}
use Rattle.heading.proofs.series.sine_of.Goals as goal
use Rattle.heading.proofs.series.sine_of.Goals.{After-alternating_sum-sum}

value : (c : After-alternating_sum-sum) → c.alternating_sum-sum.result ≡ rough_sum (nat_abs c.args.angle * 10 ^ 12) 1 (nat_abs c.args.angle * nat_abs c.args.angle) 19
value c =
    let angle_fits : FitsSigned w64 c.args.angle = c.ranges.angle in
    let size = simp to_z-of_z at c.unsigned_abs-size.ensures.value in
    rw size at c.alternating_sum-sum.ensures

small : (c : After-alternating_sum-sum) → nat_abs c.alternating_sum-sum.result ≤ 2 * 10 ^ 18 + 231
small c = rw (value c) (sine_sum_within (nat_abs c.args.angle) c.requires)

pub overflow_sub-result : goal.overflow_sub-result
overflow_sub-result c = let bound = small (goal.at.overflow_sub-result c).After-alternating_sum-sum in omega (arith, ints)

pub returns-then-angle-lt0-clause-value : goal.returns-then-angle-lt0-clause-value
returns-then-angle-lt0-clause-value c =
    let d : After-alternating_sum-sum = (goal.at.returns-then-angle-lt0-clause-value c).After-alternating_sum-sum in
    let bound = small d in
    let angle_fits : FitsSigned w64 c.args.angle = c.ranges.angle in
    let sum_fits : FitsSigned w128 c.alternating_sum-sum.result = search rules in
    let negative_fits : FitsSigned w128 (neg_ℤ c.alternating_sum-sum.result) = omega (arith, ints) in
    let is_negative = simp to_z-of_z at c.if-angle-lt0.true in
    rw is_negative (simp (to_z-of_z, opposite_is) (rw (← value d) refl))

pub returns-then-angle-lt0-clause-small : goal.returns-then-angle-lt0-clause-small
returns-then-angle-lt0-clause-small c = let bound = small (goal.at.returns-then-angle-lt0-clause-small c).After-alternating_sum-sum in omega (arith, ints)

pub returns-else-angle-lt0-clause-small : goal.returns-else-angle-lt0-clause-small
returns-else-angle-lt0-clause-small c = let bound = small (goal.at.returns-else-angle-lt0-clause-small c).After-alternating_sum-sum in omega (arith, ints)
