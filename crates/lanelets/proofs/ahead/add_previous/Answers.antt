use Rattle.lanelets.specs.Steps.{net_of}
use Rattle.lanelets.proofs.StepLists.{previous_pushed}
use Rattle.lanelets.proofs.ahead.add_previous.Goals as goal

pub returns-in_ok-push : goal.returns-in_ok-push
returns-in_ok-push c =
    previous_pushed (net_of c.args.cells.now) c.args.d c.args.lane c.args.row.now c.push.new.self c.if-d-gt0.true (c.is_of_lane.ensures.0 c.if-is_of_lane.true) c.in_ok-push.ensures
