-- Planes, one for each row.
use Rattle.std.proofs.Common.{◌≡◌, ◌∙◌, ◌⊎◌, inl, inr, refl, sym, ap, subst, arith, ℕ, zero, suc, ◌+◌, ◌<◌, List, [], ◌∷◌, ◌++◌, length, map, Some}
use Rattle.std.specs.Prelude.{slice_get, slice_set, option_map}
use Rattle.std.proofs.lemmas.Option.{slice_get-map, same_Some}
use lib.IntN.{ℤ, pos}
use Rattle.spot_terms.specs.Frames.{InFrame}
use Rattle.spot_terms.specs.Hull.{InHull}
use Rattle.spot_terms.specs.StepLists.{IsFrameOf}
use Rattle.spot_terms.specs.declared.plain.Pt.{Pt}
use Rattle.spot_terms.proofs.ItemPlaces.{get_either, get_set_either}
use Rattle.merge_sets.specs.Planes.{ArePlanes, IsPlane, IsPlaneOf, corners_of}
use Rattle.merge_sets.specs.Tables.{IsMergedOf}
use Rattle.merge_sets.specs.declared.planes.Plane.{Plane}

pub length_set : {X : Type 0} (xs : List X) (i : ℕ) (x : X) → length (slice_set xs i x) ≡ length xs
length_set [] i x = refl
length_set (y ∷ xs) zero x = refl
length_set (y ∷ xs) (suc i) x = let r = length_set xs i x in omega (arith, r)

pub planes_more : (k : ℕ) (old new : List Plane) (p : Plane) → ArePlanes k old → IsPlane k p → new ≡ old ++ p ∷ [] → ArePlanes k new
planes_more k old new p h is e j q got = elim (get_either old j p q (subst (λ (zs : List Plane). slice_get zs j ≡ Some q) e got)) [
  | inl before ↦ h j q before
  | inr last ↦ subst (λ (z : Plane). IsPlane k z) (sym last.1) is
]

pub planes_set : (k : ℕ) (planes : List Plane) (i : ℕ) (p : Plane) → i < length planes → ArePlanes k planes → IsPlane k p → ArePlanes k (slice_set planes i p)
planes_set k planes i p inside h is j q got = elim (get_set_either planes i j p inside) [
  | inl here ↦ subst (λ (z : Plane). IsPlane k z) (same_Some p q (sym here.1 ∙ got)) is
  | inr there ↦ h j q (sym there.1 ∙ got)
]

-- what was set is found
pub plane_found : (planes : List Plane) (i : ℕ) (p : Plane) → i < length planes → slice_get (map corners_of (slice_set planes i p)) i ≡ Some (corners_of p)
plane_found planes i p inside = slice_get-map corners_of (slice_set planes i p) i ∙ ap (option_map corners_of) (here (get_set_either planes i i p inside))
  where
    here : ((i ≡ i) × (slice_get (slice_set planes i p) i ≡ Some p)) ⊎ (((i < i) ⊎ (i < i)) × (slice_get (slice_set planes i p) i ≡ slice_get planes i)) → slice_get (slice_set planes i p) i ≡ Some p
    here (inl k) = k.1
    here (inr (inl l, e)) = absurd (omega (arith, l))
    here (inr (inr l, e)) = absurd (omega (arith, l))

-- the set of a cell by its planes
pub merged_by : (k : ℕ) (x y : List ℤ) (p q : Plane) (col row : ℤ) → IsPlane k p → IsPlane k q → p.numbers.n ≡ x → q.numbers.n ≡ y
    → IsMergedOf k (x, y) (record { col = col; row = row; x = p.poly; y = q.poly })
merged_by k x y p q col row is_x is_y e f =
    let a : IsPlaneOf k x p.poly = subst (λ (n : List ℤ). IsPlaneOf k n p.poly) e is_x in
    let b : IsPlaneOf k y q.poly = subst (λ (n : List ℤ). IsPlaneOf k n q.poly) f is_y in
    record { frame_x = a.frame; frame_y = b.frame; holds_x = a.holds; holds_y = b.holds; few_x = a.few; few_y = b.few }
