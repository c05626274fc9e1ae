-- The least and the greatest place of a polygon.
use Rattle.std.proofs.Common.{◌≡◌, ◌∙◌, ℕ, ◌≤◌, arith, refl, sym, ap, subst, ℤ, pos, ◌+ℤ◌, ◌-ℤ◌, ◌*ℤ◌, ◌≤ℤ◌, ◌<ℤ◌, List, [], ◌∷◌, map, inl, inr, to_z, of_z, w64, get_or, fold}
use Rattle.std.specs.Prelude.{nat_abs}
use Rattle.std.specs.Int.{int_min, int_max}
use Rattle.std.specs.List.{AllByRecursion}
use Rattle.std.proofs.lemmas.Int.{ints, clamps}
use Rattle.spot_terms.specs.declared.plain.Pt.{Pt}
use Rattle.spot_terms.specs.BaseSets.{least_place, greatest_place}
use Rattle.spot_terms.specs.ChildNumbers.{support}
use Rattle.spot_terms.specs.Hull.{Before, IsCornerList, IsSupport}
use Rattle.spot_terms.specs.Reach.{along}
use Rattle.spot_terms.specs.Whole.{greatest, least}
use Rattle.convex_poly.specs.Polygons.{IsPolygon, IsPosition}
use Rattle.spot_terms.proofs.ListLemmas.{all_included}
use Rattle.spot_terms.proofs.Orders.{at_most_trans}

pub places_order : (vs : List Pt) → least_place vs ≤ℤ greatest_place vs
places_order [] = omega (arith, ints)
places_order (v ∷ vs) = between v.x (map (λ d. d.x) vs)
  where
    least_at_most : (a z : ℤ) (xs : List ℤ) → z ≤ℤ a → least z xs ≤ℤ a
    least_at_most a z [] h = h
    least_at_most a z (x ∷ xs) h = least_at_most a (int_min z x) xs (omega (arith, ints, clamps, h))

    at_least : (a z : ℤ) (xs : List ℤ) → a ≤ℤ z → a ≤ℤ greatest z xs
    at_least a z [] h = h
    at_least a z (x ∷ xs) h = at_least a (int_max z x) xs (omega (arith, ints, clamps, h))

    between : (z : ℤ) (xs : List ℤ) → least z xs ≤ℤ greatest z xs
    between z xs = at_most_trans (least z xs) z (greatest z xs) (least_at_most z z xs (omega (arith, ints))) (at_least z z xs (omega (arith, ints)))
