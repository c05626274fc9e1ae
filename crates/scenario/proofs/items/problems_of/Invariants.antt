use Rattle.std.proofs.Common.{take}
use Rattle.std.specs.List.{AllByRecursion}
use Rattle.spot_terms.specs.Lists.{Pairwise}
use Rattle.spot_terms.specs.Ranges.{IsProblemInRange}
use Rattle.spot_claims.specs.Scenario.{IsProblem}
use Rattle.scenario.proofs.items.problems_of.Given as goal

abbrev pub invariant-loop-e : goal.invariant-loop-e
invariant-loop-e l = record {
  are : Pairwise (IsProblem l.tree) (take l.e-index l.elements) l.problems.items;
  within : AllByRecursion IsProblemInRange l.problems.items;
}
