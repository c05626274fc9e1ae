use Rattle.std.proofs.Common.{◌≡◌, ◌+◌, length, take, drop}
use Rattle.std.specs.List.{AllByRecursion}
use Rattle.std.specs.Vec.Iter.{into_iter_items, into_iter_len}
use Rattle.spot_terms.specs.Lists.{Pairwise}
use Rattle.spot_terms.specs.Ranges.{IsMoverInRange}
use Rattle.spot_claims.specs.Scenario.{IsMover}
use Rattle.scenario.specs.Found.{IsTrack}
use Rattle.scenario.proofs.items.movers_of.Given as goal

abbrev pub invariant-loop-e : goal.invariant-loop-e
invariant-loop-e l = record {
  left : Pairwise (IsTrack l.tree) (drop l.e-index l.elements) (into_iter_items l.tracks);
  count : l.e-index + into_iter_len l.tracks ≡ length l.elements;
  are : Pairwise (IsMover l.tree) (take l.e-index l.elements) l.movers.items;
  within : AllByRecursion IsMoverInRange l.movers.items;
}
