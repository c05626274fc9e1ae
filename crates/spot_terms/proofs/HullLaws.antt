-- The laws of hulls, put together; and the supports of a list of points and of the corners of its hull.
use Rattle.std.proofs.Common.{◌≡◌, refl, subst, List, [], ◌∷◌, inl, inr, arith}
use Rattle.std.proofs.lemmas.Int.{ints, by_lt_z}
use lib.IntN.{ℤ}
use lib.Signed.{◌≤ℤ◌}
use Rattle.spot_terms.specs.declared.plain.Pt.{Pt}
use Rattle.spot_terms.specs.Hull.{InHull, IsHullOf, dot, IsSupport}
use Rattle.spot_terms.specs.HullLaws.{HullLaws}
use Rattle.spot_terms.specs.Lists.{Includes}
use Rattle.spot_terms.proofs.ListLemmas.{all_included}
use Rattle.spot_terms.proofs.Hulls.{hull_included, hull_subset, hull_flat, hull_mean, hull_between, hull_at_most, support_bounds, support_bounds_whole, hull_to_points, hull_to_corners, support_of_corners}
use Rattle.spot_terms.proofs.Orders.{at_most_trans, equal_at_most, antisymmetric}

-- an item that no other item of the list passes
record Furthest (vs : List Pt) (nx ny : ℤ) : Type 0 where
  point : Pt
  here : Includes vs point
  bound : (c : Pt) → Includes vs c → dot nx ny c ≤ℤ dot nx ny point

same_point : (nx ny : ℤ) (c p : Pt) → c ≡ p → dot nx ny c ≤ℤ dot nx ny p
same_point nx ny c p e = subst (λ (z : Pt). dot nx ny c ≤ℤ dot nx ny z) e (equal_at_most _ _ refl)

-- a list with an item has one
furthest : (nx ny : ℤ) (v : Pt) (vs : List Pt) → Furthest (v ∷ vs) nx ny
furthest nx ny v [] = record { point = v; here = inl refl; bound = λ c i. elim i [ inl e ↦ same_point nx ny c v e | inr j ↦ absurd j ] }
furthest nx ny v (w ∷ ws) =
    let r = furthest nx ny w ws in
    by_lt_z (dot nx ny v) (dot nx ny r.point)
    (λ less. record { point = r.point; here = inr r.here; bound = λ c i. elim i [ inl e ↦ at_most_trans (dot nx ny c) (dot nx ny v) (dot nx ny r.point) (same_point nx ny c v e) (omega (arith, ints, less)) | inr j ↦ r.bound c j ] })
    (λ rest. record { point = v; here = inl refl; bound = λ c i. elim i [ inl e ↦ same_point nx ny c v e | inr j ↦ at_most_trans (dot nx ny c) (dot nx ny r.point) (dot nx ny v) (r.bound c j) rest ] })

-- a support of points is the support of the corners of their hull
pub support_of_points : (points corners : List Pt) (nx ny h : ℤ) → IsHullOf points corners → IsSupport points nx ny h → IsSupport corners nx ny h
support_of_points points [] nx ny h u s = absurd u.ordered
support_of_points points (v ∷ vs) nx ny h u s =
    let r = furthest nx ny v vs in
    let own : IsSupport (v ∷ vs) nx ny (dot nx ny r.point) = record { bound = r.bound; reached = (r.point, r.here, refl) } in
    let low : dot nx ny r.point ≤ℤ h = s.bound r.point (all_included (Includes points) (v ∷ vs) r.point u.among r.here) in
    let (p, i, e) = s.reached in
    let high : dot nx ny p ≤ℤ dot nx ny r.point = support_bounds_whole (v ∷ vs) nx ny (dot nx ny r.point) p own (all_included (InHull (v ∷ vs)) points p u.covers i) in
    record {
      bound = λ c j. s.bound c (all_included (Includes points) (v ∷ vs) c u.among j);
      reached = (r.point, r.here, antisymmetric _ _ low (subst (λ z. z ≤ℤ dot nx ny r.point) e high));
    }

pub hull_laws : HullLaws
hull_laws = record {
  member = hull_included;
  longer = hull_subset;
  transitive = hull_flat;
  segment = λ vs a b q m n s. hull_mean vs a b q m n s.some s.x s.y;
  upright = hull_between;
  bounded = hull_at_most;
  support = λ nx ny h vs q. support_bounds vs nx ny h q;
  of_corners = hull_to_points;
  of_points = hull_to_corners;
  support_of_corners = support_of_corners;
  support_of_points = support_of_points;
}
