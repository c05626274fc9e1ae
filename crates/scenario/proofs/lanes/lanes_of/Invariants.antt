use Rattle.std.proofs.Common.{ℕ, take}
use Rattle.std.specs.List.{filter}
use Rattle.spot_terms.specs.Lists.{Includes, Pairwise}
use Rattle.spot_claims.specs.Scenario.{IsLane}
use Rattle.scenario.specs.Has.{HasBounds}
use Rattle.scenario.specs.Lanes.{AreInRange}
use Rattle.scenario.proofs.Rises.{IsLanelet}
use Rattle.scenario.proofs.lanes.lanes_of.Given as goal

abbrev pub invariant-loop-e : goal.invariant-loop-e
invariant-loop-e l = record {
  has : (e : ℕ) → Includes (filter (IsLanelet l.tree) (take l.e-index l.e-items)) e → HasBounds l.tree e;
  are : Pairwise (IsLane l.tree) (filter (IsLanelet l.tree) (take l.e-index l.e-items)) l.lanes.entries;
  within : AreInRange l.lanes.entries;
}
