use Rattle.std.proofs.Common.{take}
use Rattle.std.specs.List.{AllByRecursion}
use Rattle.spot_terms.specs.Lists.{Pairwise}
use Rattle.spot_terms.specs.Ranges.{IsFixedInRange}
use Rattle.spot_claims.specs.Scenario.{IsFixed}
use Rattle.scenario.proofs.items.fixed_of.Given as goal

abbrev pub invariant-loop-e : goal.invariant-loop-e
invariant-loop-e l = record {
  are : Pairwise (IsFixed l.tree) (take l.e-index l.elements) l.fixed.items;
  within : AllByRecursion IsFixedInRange l.fixed.items;
}
