use Rattle.std.proofs.Common.{arith}
use Rattle.lane_paths.proofs.ReachedLists.{none_pushed}
use Rattle.lane_paths.proofs.lengths.fill.Goals as goal

pub loop-preserved : goal.loop-preserved
loop-preserved c =
    let (none, longer) = none_pushed c.loop.lengths.items c.push.new.self.items c.loop.invariant.0 c.in_ok-push.ensures.items in
    let many = c.loop.invariant.1 in (none, omega (arith, longer, many))
