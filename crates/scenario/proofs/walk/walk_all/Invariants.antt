use Rattle.std.proofs.Common.{◌≡◌, ◌<◌, length, take, map}
use Rattle.std.specs.List.{All}
use Rattle.spot_claims.specs.Profile.{at_paths}
use Rattle.scenario.specs.Table.{path_of}
use Rattle.scenario.proofs.walk.walk_all.Given as goal

abbrev pub invariant-loop-path : goal.invariant-loop-path
invariant-loop-path l = record {
  found : l.found.items ≡ at_paths l.tree (map path_of (take l.path-index l.paths));
  within : All (λ e. e < length l.tree) l.found.items;
}
