use Rattle.std.proofs.Common.{◌≡◌, length, take, ◌≤◌}
use Rattle.std.specs.List.{filter}
use Rattle.spot_claims.specs.Tree.{is_called}
use Rattle.scenario.proofs.checks.count_named.Given as goal

abbrev pub invariant-loop-c : goal.invariant-loop-c
invariant-loop-c l = record {
  count : l.count ≡ length (filter (is_called l.tree l.name) (take l.c-index l.c-items));
  few : l.count ≤ l.c-index;
}
