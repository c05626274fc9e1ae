use Rattle.std.proofs.Common.{◌≡◌, length}
use Rattle.merge_sets.specs.Planes.{ArePlanes}
use Rattle.merge_sets.proofs.planes.Planes.open.Given as goal

-- so many planes
abbrev pub invariant-loop : goal.invariant-loop
invariant-loop l = record {
  count : length l.ys.items ≡ l.counter;
  planes : ArePlanes l.k l.ys.items;
}
