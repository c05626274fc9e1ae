-- The ids of what a scenario holds.
use Rattle.std.specs.Prelude.{◌++◌, map}
use Rattle.spot_terms.specs.Lists.{AreDistinct}
use Rattle.spot_terms.specs.declared.scenario.Scenario.{Scenario}

-- no two lanelets have the same id, no two obstacles of either kind, and no two problems
pub record HaveUniqueIds (s : Scenario) : Type 0 where
  pub lanelets : AreDistinct (map (λ l. l.0) s.lanelets.entries)
  pub obstacles : AreDistinct (map (λ f. f.id) s.fixed ++ map (λ m. m.id) s.movers)
  pub problems : AreDistinct (map (λ p. p.id) s.problems)
