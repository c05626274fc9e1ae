use Rattle.scenario.proofs.Finds.{lanes_there}
use Rattle.scenario.proofs.read.read_scenario.Goals as goal

pub accept-requires-clause-points : goal.accept-requires-clause-points
accept-requires-clause-points c = lanes_there c.args.tree.now (λ lanes. lanes.entries) c.in_ok-lanelets.lanelets c.is_some.result c.is_some.ensures c.in_ok-lanelets.ensures
