use Rattle.std.proofs.Common.{◌≡◌, ◌<◌, length, take}
use Rattle.std.specs.List.{All, filter_map}
use Rattle.spot_claims.specs.Tree.{first_named}
use Rattle.scenario.proofs.walk.first_child.Given as goal

abbrev pub invariant-loop-e : goal.invariant-loop-e
invariant-loop-e l = record {
  found : l.found.items ≡ filter_map (first_named l.tree l.name) (take l.e-index l.elements);
  within : All (λ e. e < length l.tree) l.found.items;
}
