use Rattle.std.proofs.Common.{sym}
use Rattle.lane_occupancy.proofs.Firsts.{first_within, none_within}
use Rattle.lane_occupancy.proofs.intervals.first_interval.Goals as goal

pub returns-then-first-ends-clause-some : goal.returns-then-first-ends-clause-some
returns-then-first-ends-clause-some c = λ labels has. first_within labels c.args.ends.now c.args.x.now.cell c.args.x.now.label c.ends_below-first.result (sym has) c.ends_below-first.ensures.below c.if-first-ends.true c.ends_below-first.ensures.above

pub returns-else-first-ends-clause-none : goal.returns-else-first-ends-clause-none
returns-else-first-ends-clause-none c = λ labels has. none_within labels c.args.ends.now c.args.x.now.cell c.args.x.now.label c.ends_below-first.result (sym has) c.ends_below-first.ensures.below c.if-first-ends.false
