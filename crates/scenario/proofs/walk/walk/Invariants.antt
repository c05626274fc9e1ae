use Rattle.std.proofs.Common.{◌≡◌, ◌<◌, length, take, map}
use Rattle.std.specs.List.{All}
use Rattle.spot_claims.specs.Paths.{walk}
use Rattle.scenario.specs.Table.{step_of}
use Rattle.scenario.proofs.walk.walk.Given as goal

abbrev pub invariant-loop-step : goal.invariant-loop-step
invariant-loop-step l = record {
  found : l.elements.items ≡ walk l.tree (map step_of (take l.step-index l.path)) l.start;
  within : All (λ e. e < length l.tree) l.elements.items;
}
