use Rattle.std.proofs.Common.{arith}
use Rattle.lane_paths.proofs.ClosedLaws.{entries_at_most}
use Rattle.lane_paths.proofs.closed.greatest_ahead.Goals as goal

pub loop-d-preserved : goal.loop-d-preserved
loop-d-preserved c = entries_at_most c.args.search.now.lengths c.args.search.now.count c.loop-d.d-index c.loop-d.most c.in-Some.length c.greater-most.result c.args.ahead.now c.loop-d-test.true c.greater-most.ensures.first c.greater-most.ensures.second c.loop-d.invariant (c.in-Some.length, c.in-Some.ensures, omega arith)
