use Rattle.std.proofs.Common.{◌≤◌, take}
use Rattle.scenario.specs.Radii.{IsReach}
use Rattle.scenario.proofs.shapes.reach_of.Given as goal

abbrev pub invariant-loop-corner : goal.invariant-loop-corner
invariant-loop-corner l = record {
  reach : IsReach l.tree (take l.corner-index l.corners) l.reach;
  few : l.reach ≤ 250_000_000;
}
