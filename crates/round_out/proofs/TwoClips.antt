-- Two clips, one after the other.
use Rattle.std.proofs.Common.{◌≡◌, arith, sym, refl, subst, List, [], ◌∷◌, inl, inr}
use Rattle.std.specs.Prelude.{Option, Some, None, IfSome}
use Rattle.std.proofs.lemmas.Int.{ints}
use lib.IntN.{ℤ, pos, negsuc, neg_ℤ, ◌-ℤ◌}
use lib.Signed.{◌≤ℤ◌}
use Rattle.spot_terms.specs.declared.plain.Pt.{Pt}
use Rattle.spot_terms.specs.ChildNumbers.{support}
use Rattle.spot_terms.specs.Clips.{Reflection, IsClip, x_turned, turned_and_swapped, as_it_is, swapped}
use Rattle.spot_terms.specs.Hull.{dot, IsSupport, IsCornerList}
use Rattle.spot_terms.specs.Lists.{Includes}
use Rattle.spot_terms.specs.Reach.{Normal}
use Rattle.spot_terms.specs.Whole.{Within}
use Rattle.spot_terms.proofs.ListLemmas.{all_included, all_of}
use Rattle.spot_terms.proofs.Supports.{supports_are}
use Rattle.round_out.specs.Clips.{KeepsSide, StaysInBox, StaysOnSide, IsAxis, reflection, GainsAtMostOne}
use Rattle.round_out.specs.Parts.{IsPart, KeepsParts, StaysBetween, StaysSlow, GainsAtMostTwo}
use Rattle.round_out.specs.declared.clips.Side.{Side}
use Rattle.round_out.specs.declared.clips.Side.TheVariants.{XMax, XMin, VMax, VMin}
use Rattle.spot_terms.proofs.Orders.{at_most_trans}

-- a polygon has a support in each direction
support_of : (n : Normal) (vs : List Pt) → IsCornerList vs → IsSupport vs n.0 n.1 (support n vs)
support_of n [] c = absurd c
support_of n (v ∷ vs) c = supports_are.greatest n v vs

module _ (t u : Reflection) (a b : ℤ) (vs half : List Pt) where
  pub second_part : (left : Option (List Pt)) → IsClip t a vs (Some half) → IsClip u b half left → IsPart ((t, a) ∷ (u, b) ∷ []) vs left
  second_part None h g = inr (half, h, inl g)
  second_part (Some left) h g = (half, h, (left, g, refl))

  pub second_keeps : (left : Option (List Pt)) → KeepsSide t a vs (Some half) → KeepsSide u b half left → KeepsParts ((t, a) ∷ (u, b) ∷ []) vs left
  second_keeps left h g q i on = g q (h q i on.0) on.1.0

-- along the axes what both leave reaches no further than the polygon
pub second_in_box : (vs half : List Pt) (left : Option (List Pt)) → IsCornerList half → StaysInBox vs (Some half) → StaysInBox half left → StaysInBox vs left
second_in_box vs half None c h g = tt
second_in_box vs half (Some left) c h g = λ nx ny a b x s t. at_most_trans _ _ _ (g nx ny _ b x (support_of (nx, ny) half c) t) (h nx ny a _ x s (support_of (nx, ny) half c))

pub second_few : (vs half : List Pt) (left : Option (List Pt)) → GainsAtMostOne vs (Some half) → GainsAtMostOne half left → GainsAtMostTwo vs left
second_few vs half None h g = tt
second_few vs half (Some left) h g = omega (arith, h, g)

pub once_few : (vs : List Pt) (left : Option (List Pt)) → GainsAtMostOne vs left → GainsAtMostTwo vs left
once_few vs None g = tt
once_few vs (Some left) g = omega (arith, g)

-- what a clip leaves has corners
pub clip_corners : (t : Reflection) (a : ℤ) (vs : List Pt) (left : Option (List Pt)) → IsClip t a vs left → IfSome left IsCornerList
clip_corners t a vs None h = tt
clip_corners t a vs (Some left) h = h.1.ordered

-- ---- the second clip stays on the side of the first

-- the direction in which a side has its bound
axis : Side → Normal
axis XMax = (pos 1, pos 0)
axis XMin = (negsuc 0, pos 0)
axis VMax = (pos 0, pos 1)
axis VMin = (pos 0, negsuc 0)

is_axis : (s : Side) → IsAxis (axis s).0 (axis s).1
unfolding axis
is_axis XMax = inl (refl, refl)
is_axis XMin = inr (inl (refl, refl))
is_axis VMax = inr (inr (inl (refl, refl)))
is_axis VMin = inr (inr (inr (refl, refl)))

along_axis : (s : Side) (v : Pt) → dot (axis s).0 (axis s).1 v ≡ (reflection s v).x
unfolding axis
along_axis XMax v = omega (arith, ints)
along_axis XMin v = omega (arith, ints)
along_axis VMax v = omega (arith, ints)
along_axis VMin v = omega (arith, ints)

-- a corner of what is left is at most as far along an axis as the corners before
pub corner_at_most : (nx ny h : ℤ) (half left : List Pt) (c : Pt) → IsAxis nx ny → IsCornerList half → IsCornerList left → StaysInBox half (Some left) → ((u : Pt) → Includes half u → dot nx ny u ≤ℤ h) → Includes left c → dot nx ny c ≤ℤ h
corner_at_most nx ny h half left c x ch cl g b i =
    let s = support_of (nx, ny) half ch in
    let t = support_of (nx, ny) left cl in
    let (u, j, e) = s.reached in
    at_most _ _ _ _ (t.bound c i) (g nx ny _ _ x s t) e (b u j)
  where
    at_most : (a b c d : ℤ) → a ≤ℤ b → b ≤ℤ c → d ≡ c → d ≤ℤ h → a ≤ℤ h
    at_most a b c d p q e r = omega (arith, ints)

pub still_on_side : (s : Side) (a : ℤ) (half : List Pt) (left : Option (List Pt)) → IsCornerList half → IfSome left IsCornerList → StaysInBox half left → StaysOnSide (reflection s) a (Some half) → StaysOnSide (reflection s) a left
still_on_side s a half None c k g h = tt
still_on_side s a half (Some left) c k g h =
    all_of (λ v. (reflection s v).x ≤ℤ a) left (λ v i.
    subst (λ z. z ≤ℤ a) (along_axis s v)
    (corner_at_most (axis s).0 (axis s).1 a half left v (is_axis s) c k g (λ u j. subst (λ z. z ≤ℤ a) (sym (along_axis s u)) (all_included (λ w. (reflection s w).x ≤ℤ a) half u h j)) i))

-- ---- between two places, and up to a speed

pub between : (lo hi : ℤ) (left : Option (List Pt)) → StaysOnSide as_it_is hi left → StaysOnSide x_turned (neg_ℤ lo) left → StaysBetween lo hi left
between lo hi None h g = tt
between lo hi (Some left) h g = all_of (λ c. Within lo hi c.x) left (λ u i. record { low = low u.x (all_included (λ v. (x_turned v).x ≤ℤ neg_ℤ lo) left u g i); high = all_included (λ v. v.x ≤ℤ hi) left u h i })
  where
    low : (x : ℤ) → (pos 0 -ℤ x) ≤ℤ neg_ℤ lo → lo ≤ℤ x
    low x h = omega (arith, ints)

pub slow : (v : ℤ) (left : Option (List Pt)) → StaysOnSide swapped v left → StaysOnSide turned_and_swapped v left → StaysSlow v left
slow v None h g = tt
slow v (Some left) h g = all_of (λ c. Within (neg_ℤ v) v c.y) left (λ u i. record { low = low u.y (all_included (λ w. (turned_and_swapped w).x ≤ℤ v) left u g i); high = all_included (λ w. (swapped w).x ≤ℤ v) left u h i })
  where
    low : (y : ℤ) → (pos 0 -ℤ y) ≤ℤ v → neg_ℤ v ≤ℤ y
    low y h = omega (arith, ints)
