use Rattle.std.proofs.Common.{◌≡◌, ◌<◌, length, take}
use Rattle.std.specs.List.{All, flat_map}
use Rattle.spot_claims.specs.Tree.{all_named}
use Rattle.scenario.proofs.walk.each_child.Given as goal

abbrev pub invariant-loop-e : goal.invariant-loop-e
invariant-loop-e l = record {
  found : l.found.items ≡ flat_map (all_named l.tree l.name) (take l.e-index l.elements);
  within : All (λ e. e < length l.tree) l.found.items;
}
