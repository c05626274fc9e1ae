use Rattle.std.proofs.Common.{refl}
use Rattle.scenario.proofs.Finds.{time_found}
use Rattle.scenario.proofs.values.find_time.Goals as goal

pub returns : goal.returns
returns c = time_found c.args.tree.now c.args.e _ c.in_ok-time.time refl c.in_ok-time.ensures
