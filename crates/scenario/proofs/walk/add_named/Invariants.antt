use Rattle.std.proofs.Common.{◌≡◌, ◌<◌, ◌++◌, length, take}
use Rattle.std.specs.List.{All, filter}
use Rattle.spot_claims.specs.Tree.{is_called}
use Rattle.scenario.proofs.walk.add_named.Given as goal

abbrev pub invariant-loop-c : goal.invariant-loop-c
invariant-loop-c l = record {
  found : l.found.items ≡ l.initial.found.items ++ filter (is_called l.tree l.name) (take l.c-index l.c-items);
  within : All (λ e. e < length l.tree) l.found.items;
}
