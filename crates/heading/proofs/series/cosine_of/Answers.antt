use Rattle.std.proofs.Common.{to_z-of_z, FitsSigned, rules}
use Rattle.std.specs.Int.{w128, w64}
use Rattle.heading.proofs.Bounds.{cosine_sum_within}
use Rattle.heading.proofs.series.cosine_of.Goals as goal

pub returns-clause-small : goal.returns-clause-small
returns-clause-small c =
    let fits : FitsSigned w128 c.alternating_sum.result = search rules in
    let angle_fits : FitsSigned w64 c.args.angle = c.ranges.angle in
    let size = simp to_z-of_z at c.unsigned_abs-size.ensures.value in
    let value = rw size at c.alternating_sum.ensures in
    simp to_z-of_z (rw value (cosine_sum_within c.args.angle c.requires))
