-- A polygon that isn't far off keeps few corners when it is clipped.
use Rattle.std.proofs.Common.{◌⊎◌, ◌+◌, ◌≤◌, inl, inr, refl, subst, arith, List, [], ◌∷◌, length, Some}
use Rattle.std.specs.List.{AllByRecursion}
use Rattle.std.specs.Prelude.{nat_abs}
use Rattle.std.proofs.lemmas.Int.{ints, by_lt_z}
use lib.IntN.{ℤ, pos, neg_ℤ}
use lib.Signed.{◌≤ℤ◌, ◌<ℤ◌}
use Rattle.spot_terms.specs.ClippedTo.{places, IsClippedTo}
use Rattle.spot_terms.specs.Clips.{Reflection, IsClip, as_it_is, x_turned}
use Rattle.spot_terms.specs.Whole.{Within}
use Rattle.spot_terms.specs.declared.plain.Pt.{Pt}
use Rattle.spot_terms.proofs.ListLemmas.{all_included, all_of}
use Rattle.spot_terms.proofs.OneClip.{clips_one}
use Rattle.convex_poly.specs.Polygons.{IsPosition}
use Rattle.round_out.proofs.ClipCases.{AreOnSide, cut_few, whole_clip}
use Rattle.round_out.proofs.Reflections.{IsMirror, mirror_as_it_is, mirror_x_turned}
use Rattle.propagate.specs.Children.{IsInPlane}
use Rattle.area_laws.proofs.Sides.{AreInside, clip_inside}

-- the places and the speeds of a plane are those of positions
pub record IsSmallPlane (lo hi v : ℤ) : Type 0 where
  pub low : nat_abs lo ≤ 21_000_000_000_000
  pub high : nat_abs hi ≤ 21_000_000_000_000
  pub speed : Within (pos 0) (pos 900_000) v

small_position : (lo hi v : ℤ) (c : Pt) → IsSmallPlane lo hi v → IsInPlane lo hi v c → IsPosition c
small_position lo hi v c s h = record {
  x = omega (arith, ints, s.low, s.high, h.place.low, h.place.high);
  y = omega (arith, ints, s.speed.low, s.speed.high, h.speed.low, h.speed.high);
}

pub small_positions : (lo hi v : ℤ) (cs : List Pt) → IsSmallPlane lo hi v → AllByRecursion (IsInPlane lo hi v) cs → AllByRecursion IsPosition cs
small_positions lo hi v cs s h = all_of IsPosition cs (λ c j. small_position lo hi v c s (all_included (IsInPlane lo hi v) cs c h j))

-- all corners are on the side, or not
side_or_not : (t : Reflection) (c : ℤ) (vs : List Pt) → AreOnSide t c vs ⊎ (AreOnSide t c vs → ⊥)
side_or_not t c [] = inl tt
side_or_not t c (v ∷ vs) = by_lt_z c (t v).x (λ past. inr (λ all. clash (t v).x all.0 past)) (λ near. elim (side_or_not t c vs) [
  | inl all ↦ inl (near, all)
  | inr not_all ↦ inr (λ all. not_all all.1)
])
  where
    clash : (x : ℤ) → x ≤ℤ c → c <ℤ x → ⊥
    clash x h k = omega (arith, ints, h, k)

-- one clip adds a corner at most
clip_few : (t : Reflection) (m : IsMirror t) (c lo hi v : ℤ) (half left : List Pt) → IsSmallPlane lo hi v → AreInside lo hi v half → IsClip t c half (Some left) → length left ≤ length half + 1
clip_few t m c lo hi v half left small h clip = go (side_or_not t c half)
  where
    go : AreOnSide t c half ⊎ (AreOnSide t c half → ⊥) → length left ≤ length half + 1
    go (inl side) = subst (λ (z : List Pt). length z ≤ length half + 1) (clips_one ((t, c) ∷ []) half half left (half, whole_clip t m c half h.convex side, refl) (left, clip, refl)) (omega arith)
    go (inr not_all) = cut_few t m c half (small_positions lo hi v half small h.plane) not_all left clip.1

-- the part at some places has two corners more at most
pub part_few : (a b lo hi v : ℤ) (half part : List Pt) → IsSmallPlane lo hi v → AreInside lo hi v half → IsClippedTo (places a b) half part → length part ≤ length half + 2
part_few a b lo hi v half part small h (c, first, (d, second, e)) =
    let inside = clip_inside as_it_is mirror_as_it_is b lo hi v half c first h in
    let one = clip_few as_it_is mirror_as_it_is b lo hi v half c small h first in
    let two = clip_few x_turned mirror_x_turned (neg_ℤ a) lo hi v c d small inside second in
    subst (λ (z : List Pt). length z ≤ length half + 2) e (omega (arith, one, two))
