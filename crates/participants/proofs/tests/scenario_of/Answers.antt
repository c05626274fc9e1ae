use Rattle.std.proofs.Common.{◌+◌, ◌≤◌, arith, rules, length, List, [], ◌∷◌}
use Rattle.std.specs.List.{AllByRecursion}
use Rattle.spot_terms.specs.Ranges.{AreStatesInRange, IsFixedInRange, IsMoverInRange, recorded_count}
use Rattle.spot_terms.specs.declared.scenario.Mover.{Mover}
use Rattle.participants.proofs.tests.scenario_of.Goals as goal

-- no more states than obstacles, where each has one at most
few_states : (ms : List Mover) → AllByRecursion (λ m. length m.recorded ≤ 1) ms → recorded_count ms ≤ length ms
few_states [] h = omega arith
few_states (m ∷ ms) h = let one = h.0 in let rest = few_states ms h.1 in omega (arith, one, rest)

pub invariant_of-result : goal.invariant_of-result
invariant_of-result c = let few = few_states c.args.movers.items c.requires.once in record {
  in_range = record {
    step_low = c.requires.step.0;
    step_high = c.requires.step.1;
    few = search rules;
    few_recorded = search rules;
    buildable = c.requires.lanelets;
    each_mover = search rules;
    each_state = search rules;
    each_fixed = search rules;
    each_problem = search rules;
  };
}
