-- The least and the greatest place of a polygon.
use Rattle.std.proofs.Common.{◌≡◌, ◌∙◌, ◌≤◌, arith, refl, sym, ap, subst, ℤ, pos, ◌*ℤ◌, ◌+ℤ◌, ◌≤ℤ◌, List, [], ◌∷◌, map, inl, inr, to_z, of_z, w64, get_or}
use Rattle.std.specs.Prelude.{nat_abs}
use Rattle.std.specs.Int.{int_min}
use Rattle.std.specs.List.{AllByRecursion}
use Rattle.std.proofs.lemmas.Int.{ints, clamps}
use Rattle.spot_terms.specs.declared.plain.Pt.{Pt}
use Rattle.spot_terms.specs.BaseSets.{least_place, greatest_place}
use Rattle.spot_terms.specs.ChildNumbers.{support}
use Rattle.spot_terms.specs.Hull.{Before, IsCornerList, IsSupport}
use Rattle.spot_terms.specs.Reach.{along}
use Rattle.spot_terms.specs.Whole.{greatest, least}
use Rattle.convex_poly.specs.Polygons.{IsPolygon, IsPosition}
use Rattle.spot_terms.proofs.ListLemmas.{all_included}
use Rattle.spot_terms.proofs.Supports.{supports_are}
use Rattle.convex_poly.proofs.RunRows.{before_x}
use Rattle.spot_terms.proofs.Orders.{first_alone}

least_same : (z : ℤ) (xs : List ℤ) → AllByRecursion (λ x. z ≤ℤ x) xs → least z xs ≡ z
least_same z [] h = refl
least_same z (x ∷ xs) h =
    let first : int_min z x ≡ z = (let l = h.0 in omega (arith, ints, clamps)) in
    ap (λ (y : ℤ). least y xs) first ∙ least_same z xs h.1

all_east : (a : Pt) (rest : List Pt) → AllByRecursion (Before a) rest → AllByRecursion (λ x. a.x ≤ℤ x) (map (λ d. d.x) rest)
all_east a [] h = tt
all_east a (b ∷ rest) h = (before_x a b h.0, all_east a rest h.1)

pub first_place : (vs us : List Pt) (d : Pt) → us ≡ vs → IsPolygon vs → to_z w64 (of_z w64 (get_or us 0 d).x) ≡ least_place vs
first_place vs us d e h = subst (λ (z : List Pt). to_z w64 (of_z w64 (get_or z 0 d).x) ≡ least_place vs) (sym e) (at vs h.convex h.positions)
  where
    read : (z : ℤ) → nat_abs z ≤ 40_000_000_000_000 → to_z w64 (of_z w64 z) ≡ z
    read z h = omega (arith, ints)

    at : (vs : List Pt) → IsCornerList vs → AllByRecursion IsPosition vs → to_z w64 (of_z w64 (get_or vs 0 d).x) ≡ least_place vs
    at [] c p = absurd c
    at (a ∷ rest) c p = read a.x p.0.x ∙ sym (least_same a.x (map (λ d. d.x) rest) (all_east a rest c.0))

places_east : (vs : List Pt) → map (along (pos 1, pos 0)) vs ≡ map (λ d. d.x) vs
places_east [] = refl
places_east (v ∷ vs) =
    let first : along (pos 1, pos 0) v ≡ v.x = first_alone v.x v.y in
    let rest : map (along (pos 1, pos 0)) vs ≡ map (λ d. d.x) vs = places_east vs in
    ap (λ (z : ℤ). z ∷ map (along (pos 1, pos 0)) vs) first ∙ ap (λ (zs : List ℤ). v.x ∷ zs) rest

support_east : (vs : List Pt) → support (pos 1, pos 0) vs ≡ greatest_place vs
support_east [] = refl
support_east (v ∷ vs) = ap (λ (z : ℤ). greatest z (map (along (pos 1, pos 0)) vs)) (first_alone v.x v.y) ∙ ap (λ (zs : List ℤ). greatest v.x zs) (places_east vs)

pub last_place : (vs : List Pt) (r : ℤ) → IsSupport vs (pos 1) (pos 0) r → r ≡ greatest_place vs
last_place vs r s = sym (supports_are.one (pos 1, pos 0) vs r s) ∙ support_east vs

pub support_size : (vs : List Pt) (r : ℤ) → IsPolygon vs → IsSupport vs (pos 1) (pos 0) r → nat_abs r ≤ 40_000_000_000_000
support_size vs r p s = let (c, i, e) = s.reached in near c.x c.y r (all_included IsPosition vs c p.positions i).x e
  where
    near : (x y r : ℤ) → nat_abs x ≤ 40_000_000_000_000 → pos 1 *ℤ x +ℤ pos 0 *ℤ y ≡ r → nat_abs r ≤ 40_000_000_000_000
    near x y r h e = omega (arith, ints, h, e)

-- the first corner of a polygon is near
pub first_size : (vs us : List Pt) (d : Pt) → us ≡ vs → IsPolygon vs → nat_abs (to_z w64 (of_z w64 (get_or us 0 d).x)) ≤ 40_000_000_000_000
first_size vs us d e h = subst (λ (z : List Pt). nat_abs (to_z w64 (of_z w64 (get_or z 0 d).x)) ≤ 40_000_000_000_000) (sym e) (at vs h.convex h.positions)
  where
    read : (z : ℤ) → nat_abs z ≤ 40_000_000_000_000 → nat_abs (to_z w64 (of_z w64 z)) ≤ 40_000_000_000_000
    read z h = omega (arith, ints)

    at : (vs : List Pt) → IsCornerList vs → AllByRecursion IsPosition vs → nat_abs (to_z w64 (of_z w64 (get_or vs 0 d).x)) ≤ 40_000_000_000_000
    at [] c p = absurd c
    at (a ∷ rest) c p = read a.x p.0.x
