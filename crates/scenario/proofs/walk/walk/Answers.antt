use Rattle.std.proofs.Common.{◌∙◌}
use Rattle.scenario.proofs.Paths.{walk_next}
use Rattle.scenario.specs.Table.{step_of}
use Rattle.scenario.proofs.walk.walk.Goals as goal

pub loop-step-preserved : goal.loop-step-preserved
loop-step-preserved c = record {
  found = walk_next c.args.tree.now step_of c.args.path.now c.loop-step.step-index _ c.args.start.now c.deref.result.now c.in_ok-elements-2.elements.items c.loop-step-test.true (c.deref.ensures.value ∙ c.loop-step.invariant.found) c.in_ok-elements-2.ensures.found;
  within = c.in_ok-elements-2.ensures.within;
}
