use Rattle.std.proofs.Common.{get_or}
use Rattle.spot_terms.specs.Ranges.{IsProblemInRange}
use Rattle.spot_claims.specs.Scenario.{IsProblem}
use Rattle.scenario.proofs.Members.{item_in, pair_taken, each_more}
use Rattle.scenario.proofs.items.problems_of.Goals as goal

pub problem_at-requires-clause-has : goal.problem_at-requires-clause-has
problem_at-requires-clause-has c = c.requires.has (get_or c.args.elements.now c.loop-e.e-index 0) (item_in c.args.elements.now c.loop-e.e-index 0 c.loop-e-test.true)

pub loop-e-preserved : goal.loop-e-preserved
loop-e-preserved c = record {
  are = pair_taken (IsProblem c.args.tree.now) c.args.elements.now c.loop-e.problems.items c.push.new.self.items c.loop-e.e-index 0 c.problem_at.result c.loop-e-test.true c.in_ok-push.ensures.items c.loop-e.invariant.are c.problem_at.ensures.is;
  within = each_more IsProblemInRange c.loop-e.problems.items c.push.new.self.items c.problem_at.result c.in_ok-push.ensures.items c.loop-e.invariant.within c.problem_at.ensures.within;
}
