use Rattle.std.proofs.Common.{arith}
use Rattle.lanelets.proofs.LaneCells.{buildable_few}
use Rattle.lanelets.proofs.lanes.lane_count.Goals as goal

pub overflow_cast-result : goal.overflow_cast-result
overflow_cast-result c = let few = buildable_few c.args.lanes.now.entries c.requires in let len = c.len.ensures.len in omega (arith, few, len)

pub returns-clause-few : goal.returns-clause-few
returns-clause-few c = let few = buildable_few c.args.lanes.now.entries c.requires in let len = c.len.ensures.len in omega (arith, few, len)
