use Rattle.scenario.proofs.Unique.{scenario_is_one}
use Rattle.scenario.proofs.a_tree_has_one_scenario.Goals as goal

pub returns : goal.returns
returns c = scenario_is_one
