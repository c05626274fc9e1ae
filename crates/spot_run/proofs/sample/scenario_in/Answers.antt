use Rattle.spot_run.proofs.Refusals.{accepted_memory}
use Rattle.spot_run.proofs.sample.scenario_in.Goals as goal

pub returns-in-Ok-clause-memory : goal.returns-in-Ok-clause-memory
returns-in-Ok-clause-memory c =
    let (tree, is) = c.requires.accepted in
    accepted_memory c.args.text.now tree c.in-Ok.tree c.scenario_of.result is.is_tree is.accepted c.in-Ok.ensures c.scenario_of.ensures.none
