use Rattle.std.proofs.Common.{◌≤ℤ◌}
use Rattle.spot_terms.specs.Reach.{along, normals}
use Rattle.convex_poly.proofs.Pairs.{from_map, to_map}
use Rattle.convex_poly.proofs.oct_numbers.OctNumbers.contains.Goals as goal

pub returns : goal.returns
returns c = let h = rw c.places.ensures at c.are_at_most.ensures in (
  λ t. from_map (λ n. along n c.args.p) (λ x y. x ≤ℤ y) normals c.args.self.now.n (h.0 t),
  λ i. h.1 (to_map (λ n. along n c.args.p) (λ x y. x ≤ℤ y) normals c.args.self.now.n i),
)
