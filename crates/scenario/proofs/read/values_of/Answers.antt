use Rattle.std.proofs.Common.{arith}
use Rattle.spot_claims.specs.Scenario.{IsMover, IsFixed}
use Rattle.spot_claims.specs.Paths.{at_path, statics, dynamics}
use Rattle.scenario.proofs.Ids.{unique_ids}
use Rattle.scenario.proofs.States.{states_in_range}
use Rattle.scenario.proofs.Totals.{few_recorded, few_held}
use Rattle.scenario.proofs.read.values_of.Goals as goal
use Rattle.spot_terms.proofs.ListLemmas.{pairwise_length}
use Rattle.scenario.proofs.Few.{few_obstacles}

pub invariant_of-result : goal.invariant_of-result
invariant_of-result c =
    let n = pairwise_length (IsMover c.args.tree.now) (at_path c.args.tree.now dynamics) c.in_ok-movers_in.field-0 c.in_ok-movers_in.ensures.are in
    let m = pairwise_length (IsFixed c.args.tree.now) (at_path c.args.tree.now statics) c.in_ok-fixed_in.field-0 c.in_ok-fixed_in.ensures.are in
    record {
      in_range = record {
        step_low = c.step_of.ensures.low;
        step_high = c.step_of.ensures.high;
        few = omega (arith, n, m, few_obstacles c.args.tree.now c.requires.accepted c.len.ensures.tree);
        few_recorded = few_recorded c.args.tree.now c.len.ensures.tree c.in_ok-movers_in.field-0 c.in_ok-problems_in.field-0 c.in_ok-movers_in.ensures.are c.in_ok-problems_in.ensures.are;
        buildable = record { each = c.requires.lanelets.within; few = few_held c.args.tree.now c.len.ensures.tree _ c.requires.lanelets.are };
        each_mover = c.in_ok-movers_in.ensures.within;
        each_state = states_in_range c.args.tree.now c.requires.accepted c.in_ok-movers_in.field-0 c.in_ok-movers_in.ensures.are;
        each_fixed = c.in_ok-fixed_in.ensures.within;
        each_problem = c.in_ok-problems_in.ensures.within;
      };
    }

pub returns-clause-ids : goal.returns-clause-ids
returns-clause-ids c = unique_ids c.args.tree.now c.requires.accepted c.len.ensures.tree _ c.requires.lanelets.are c.in_ok-movers_in.ensures.are c.in_ok-fixed_in.ensures.are c.in_ok-problems_in.ensures.are
