-- What a clip keeps, by its points alone.
use Rattle.std.proofs.Common.{◌⊎◌, inl, inr, refl, subst, List, [], ◌∷◌, Option, Some, None}
use Rattle.std.proofs.lemmas.Int.{by_lt_z}
use lib.IntN.{ℤ}
use lib.Signed.{◌≤ℤ◌, ◌<ℤ◌}
use Rattle.spot_terms.specs.declared.plain.Pt.{Pt}
use Rattle.spot_terms.specs.Clips.{Reflection, IsClip}
use Rattle.spot_terms.specs.Hull.{InHull, IsCornerList}
use Rattle.spot_terms.specs.Lists.{Includes}
use Rattle.spot_terms.proofs.ListLemmas.{all_included}
use Rattle.spot_terms.proofs.OneClip.{clips_one}
use Rattle.round_out.specs.Clips.{KeepsSide}
use Rattle.round_out.proofs.ClipCases.{AreOnSide, cut_keeps, past_keeps, whole_clip}
use Rattle.round_out.proofs.Reflections.{IsMirror}
use Rattle.spot_terms.proofs.Orders.{at_most_not_above}

-- no corner is past the line, or one is
side_or_past : (t : Reflection) (c : ℤ) (vs : List Pt) → AreOnSide t c vs ⊎ ((w : Pt) × Includes vs w × (c <ℤ (t w).x))
side_or_past t c [] = inl tt
side_or_past t c (v ∷ vs) = by_lt_z c (t v).x (λ past. inr (v, inl refl, past)) (λ near. elim (side_or_past t c vs) [
  | inl all ↦ inl (near, all)
  | inr far ↦ let (w, i, past) = far in inr (w, inr i, past)
])

-- each whole point of a polygon on the side of a clip is in what the clip leaves
pub clip_keeps_side : (t : Reflection) (m : IsMirror t) (c : ℤ) (vs : List Pt) (left : Option (List Pt)) → IsCornerList vs → IsClip t c vs left → KeepsSide t c vs left
clip_keeps_side t m c vs None convex past = past_keeps t m c vs past
clip_keeps_side t m c vs (Some clipped) convex ((v, i, near), hull) = go (side_or_past t c vs)
  where
    go : AreOnSide t c vs ⊎ ((w : Pt) × Includes vs w × (c <ℤ (t w).x)) → KeepsSide t c vs (Some clipped)
    go (inl side) = λ q h on. subst (λ (z : List Pt). InHull z q) (clips_one ((t, c) ∷ []) vs vs clipped (vs, whole_clip t m c vs convex side, refl) (clipped, ((v, i, near), hull), refl)) h
    go (inr (w, j, past)) = cut_keeps t m c vs clipped convex
        (λ all. at_most_not_above (t v).x c near (all_included (λ u. c <ℤ (t u).x) vs v all i))
        (λ all. at_most_not_above (t w).x c (all_included (λ u. (t u).x ≤ℤ c) vs w all j) past) hull
