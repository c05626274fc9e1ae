use Rattle.std.proofs.Common.{ℤ, take, length, ◌≤◌}
use Rattle.std.specs.List.{AllByRecursion}
use Rattle.convex_poly.specs.Polygons.{IsPosition}
use Rattle.convex_poly.specs.Chains.{Rising, IsChain}
use Rattle.convex_poly.proofs.chain.put_chain.Given as goal

abbrev pub invariant-loop-p : goal.invariant-loop-p
invariant-loop-p g l = record {
  few : length l.chain.items ≤ l.p-index;
  positions : AllByRecursion IsPosition l.chain.items;
  chain : (kx ky : ℤ) → Rising kx ky l.points → IsChain kx ky (take l.p-index l.points) l.chain.items;
}
