use Rattle.lane_paths.proofs.ClosedLaws.{cells_at_most}
use Rattle.lane_paths.proofs.closed.greatest_among.Goals as goal

pub loop-c-preserved : goal.loop-c-preserved
loop-c-preserved c = cells_at_most c.args.net.now c.args.search.now.lengths c.loop-c.c-index c.loop-c.most c.in-Some.length c.greater-most.result c.args.block.now c.loop-c-test.true c.greater-most.ensures.first c.greater-most.ensures.second c.loop-c.invariant c.in-Some.ensures
