use Rattle.std.proofs.Common.{sym}
use Rattle.scenario.proofs.Finds.{position_found}
use Rattle.scenario.proofs.values.find_position.Goals as goal

pub returns : goal.returns
returns c = position_found c.args.tree.now c.args.e c.in_ok-position.position c.in_ok-point.point c.find_point.result (sym c.in_ok-position.ensures.first) (sym c.in_ok-point.ensures.first) c.find_point.ensures
