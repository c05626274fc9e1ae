use Rattle.std.proofs.Common.{◌≡◌, ◌∙◌, ◌≤◌, ap, arith, ℤ, ◌+ℤ◌, ◌*ℤ◌, ◌-ℤ◌, pos, nat_abs}
use Rattle.spot_terms.specs.Whole.{quotient_floor}
use Rattle.lanelets.proofs.Cuts.{difference_small, gone_is, part_small, sum_fits, sum_fits_narrow, sum_is, cut_small}
use Rattle.lanelets.proofs.piece.cut_between.Goals as goal
use Rattle.lanelets.proofs.piece.cut_between.Goals.{After-from-5}

gone : (c : After-from-5) → c.div_floor-gone.result ≡ quotient_floor ((c.args.to -ℤ c.args.from) *ℤ pos c.args.t) (pos c.args.parts)
gone c =
    gone_is c.div_floor-gone.result c.from.result c.from-2.result c.from-3.result c.from-4.result c.args.from c.args.to c.args.t c.args.parts c.requires.from_in c.requires.to_in (omega arith) (omega arith)
    c.div_floor-gone.ensures.value c.from.ensures c.from-2.ensures c.from-3.ensures c.from-4.ensures

small : (c : After-from-5) → nat_abs c.div_floor-gone.result ≤ 20000000000000
small c = rw (gone c) (part_small (c.args.to -ℤ c.args.from) c.args.t c.args.parts c.requires.some c.requires.part (difference_small c.args.from c.args.to c.requires.from_in c.requires.to_in))

pub overflow_add-result : goal.overflow_add-result
overflow_add-result c = sum_fits c.from-5.result c.div_floor-gone.result c.args.from c.requires.from_in (small c) c.from-5.ensures

pub overflow_cast-result : goal.overflow_cast-result
overflow_cast-result c = sum_fits_narrow c.from-5.result c.div_floor-gone.result c.args.from c.requires.from_in (small c) c.from-5.ensures

pub returns-clause-value : goal.returns-clause-value
returns-clause-value c = sum_is c.from-5.result c.div_floor-gone.result c.args.from c.requires.from_in (small c) c.from-5.ensures ∙ ap (λ (z : ℤ). c.args.from +ℤ z) (gone c)

pub returns-clause-size : goal.returns-clause-size
returns-clause-size c =
    cut_small _ c.args.from c.args.to c.args.t c.args.parts c.requires.some c.requires.part c.requires.from_in c.requires.to_in
    (sum_is c.from-5.result c.div_floor-gone.result c.args.from c.requires.from_in (small c) c.from-5.ensures ∙ ap (λ (z : ℤ). c.args.from +ℤ z) (gone c))
