use Rattle.spot_run.proofs.OverTraffic.{can_open}
use Rattle.spot_run.proofs.sample.total_over.Goals as goal

pub open_run-requires : goal.open_run-requires
open_run-requires c = can_open c.args.scenario.now c.args.command.now c.args.ego.now c.args.prediction.now c.requires.ego c.requires.predicted c.requires.command
