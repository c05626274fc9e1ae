use Rattle.std.proofs.Common.{◌≡◌, ◌∙◌, ◌+◌, ◌-◌, ◌*◌, ◌≤◌, ap, sym, subst, arith, mul-le-mul}
use Rattle.spot_terms.specs.LanePolygons as polygons
use Rattle.lane_occupancy.specs.Laws.{BoundsPieces}
use Rattle.lane_occupancy.proofs.Paces.{bounds_pieces}
use Rattle.lane_occupancy.proofs.ReachLengths.{together, reach_within}
use Rattle.lane_occupancy.proofs.reach.reach_length.Goals as goal
use Rattle.lane_occupancy.proofs.reach.reach_length.Goals.{After-risen_length}

is : (c : After-risen_length) → c.risen_length.result + (c.from-ticks.result - c.rising_ticks-rising.result) * c.args.v ≡ polygons.reach_length c.args.speed c.args.a c.args.v c.args.ticks
is c =
    together c.args.speed c.args.a c.args.v c.from-ticks.result c.rising_ticks-rising.result c.risen_length.result c.requires.a.0 c.rising_ticks-rising.ensures.value c.risen_length.ensures
    ∙ ap (polygons.reach_length c.args.speed c.args.a c.args.v) c.from-ticks.ensures

small : (c : After-risen_length) → c.risen_length.result + (c.from-ticks.result - c.rising_ticks-rising.result) * c.args.v ≤ 100000000000
small c = let within = reach_within c.args.speed c.args.a c.args.v c.args.ticks in let most : c.args.ticks * c.args.v ≤ 100000 * 1000000 = mul-le-mul c.requires.ticks c.requires.v in omega (arith, is c, within, most)

pub overflow_add-result : goal.overflow_add-result
overflow_add-result c = omega (arith, small c)

pub returns-clause-value : goal.returns-clause-value
returns-clause-value c = is c

pub returns-clause-within : goal.returns-clause-within
returns-clause-within c = small c

pub returns-clause-bounds : goal.returns-clause-bounds
returns-clause-bounds c = subst (BoundsPieces c.args.speed c.args.a c.args.v c.args.ticks) (sym (is c)) (bounds_pieces c.args.speed c.args.a c.args.v c.args.ticks)
