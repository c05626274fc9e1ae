-- Points of a polygon are positions.
use Rattle.std.proofs.Common.{List, arith}
use Rattle.std.proofs.lemmas.Int.{ints}
use Rattle.std.specs.Prelude.{ℤ, pos, neg_ℤ, ◌≤ℤ◌, ◌≤◌, nat_abs}
use Rattle.std.specs.List.{AllByRecursion}
use Rattle.spot_terms.proofs.Places.{all_map}
use Rattle.convex_poly.specs.Polygons.{IsPosition}
use Rattle.spot_terms.proofs.Hulls.{hull_x_at_most, hull_x_at_least, hull_y_at_most, hull_y_at_least}
use Rattle.spot_terms.specs.Hull.{InHull}
use Rattle.spot_terms.specs.declared.plain.Pt.{Pt}

at_most : (x : ℤ) → nat_abs x ≤ 40000000000000 → x ≤ℤ pos 40000000000000
at_most x h = omega (arith, ints)

at_least : (x : ℤ) → nat_abs x ≤ 40000000000000 → neg_ℤ (pos 40000000000000) ≤ℤ x
at_least x h = omega (arith, ints)

size_between : (x : ℤ) → neg_ℤ (pos 40000000000000) ≤ℤ x → x ≤ℤ pos 40000000000000 → nat_abs x ≤ 40000000000000
size_between x h k = omega (arith, ints)

-- a point of the hull of positions is a position
pub position_in : (vs : List Pt) (q : Pt) → AllByRecursion IsPosition vs → InHull vs q → IsPosition q
position_in vs q h i = record {
  x = size_between q.x
      (hull_x_at_least (neg_ℤ (pos 40000000000000)) vs q (all_map IsPosition (λ u. neg_ℤ (pos 40000000000000) ≤ℤ u.x) (λ u p. at_least u.x p.x) vs h) i)
      (hull_x_at_most (pos 40000000000000) vs q (all_map IsPosition (λ u. u.x ≤ℤ pos 40000000000000) (λ u p. at_most u.x p.x) vs h) i);
  y = size_between q.y
      (hull_y_at_least (neg_ℤ (pos 40000000000000)) vs q (all_map IsPosition (λ u. neg_ℤ (pos 40000000000000) ≤ℤ u.y) (λ u p. at_least u.y p.y) vs h) i)
      (hull_y_at_most (pos 40000000000000) vs q (all_map IsPosition (λ u. u.y ≤ℤ pos 40000000000000) (λ u p. at_most u.y p.y) vs h) i);
}
