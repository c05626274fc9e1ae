use Rattle.std.proofs.Common.{codes}
use Rattle.spot_claims.specs.Scenario.{bound_points}
use Rattle.scenario.proofs.Finds.{no_even, some_points}
use Rattle.scenario.proofs.lanes.lane_at.Goals as goal

pub returns-then-not-are_even : goal.returns-then-not-are_even
returns-then-not-are_even c =
    let left = some_points c.args.tree.now (bound_points c.args.tree.now (codes "leftBound") c.args.e) c.in_ok-left.field-0 c.in-Some.left c.in-Some.is c.in_ok-left.ensures in
    let right = some_points c.args.tree.now (bound_points c.args.tree.now (codes "rightBound") c.args.e) c.in_ok-right.field-0 c.in-Some-2.right c.in-Some-2.is c.in_ok-right.ensures in
    λ has. no_even c.args.tree.now c.args.e c.in-Some.left c.in-Some-2.right c.are_even.result has left.are right.are c.are_even.ensures c.if-not-are_even.true
