-- The frame of a child, clipped.
use Rattle.std.proofs.Common.{◌≤◌, arith, sym, refl, subst, List, [], ◌∷◌, ◌++◌, inl, inr, length}
use Rattle.std.specs.Prelude.{nat_abs, Option, Some, None, IfSome}
use Rattle.std.proofs.lemmas.Int.{ints}
use lib.IntN.{ℤ, pos, negsuc, neg_ℤ, ◌+ℤ◌, ◌-ℤ◌, ◌*ℤ◌}
use lib.Signed.{◌≤ℤ◌}
use Rattle.spot_terms.specs.declared.plain.Pt.{Pt}
use Rattle.spot_terms.specs.ChildNumbers.{child_numbers}
use Rattle.spot_terms.specs.ClippedTo.{Side, places, speeds, IsClippedTo, IsClippedAway}
use Rattle.spot_terms.specs.Courses.{Course}
use Rattle.spot_terms.specs.Frames.{at}
use Rattle.spot_terms.specs.Hull.{IsCornerList}
use Rattle.spot_terms.specs.StepLists.{IsFrameOf}
use Rattle.spot_terms.specs.Whole.{Within}
use Rattle.spot_terms.proofs.ListLemmas.{all_included, all_of}
use Rattle.round_out.specs.Clips.{StaysInBox}
use Rattle.round_out.specs.Parts.{IsPart, KeepsParts, StaysBetween, StaysSlow, GainsAtMostTwo}
use Rattle.round_out.proofs.TwoClips.{corner_at_most}
use Rattle.propagate.specs.Children.{IsPlaneChild, HoldsFrame, HoldsPlane, IsInPlane, IsChildIn}
use Rattle.spot_terms.proofs.Orders.{at_most_opposite}

-- ---- clips after clips

clipped_both : (xs ys : List Side) (vs half left : List Pt) → IsClippedTo xs vs half → IsClippedTo ys half left → IsClippedTo (xs ++ ys) vs left
clipped_both [] ys vs half left h g = subst (λ (z : List Pt). IsClippedTo ys z left) (sym h) g
clipped_both (s ∷ xs) ys vs half left (next, h, rest) g = (next, h, clipped_both xs ys next half left rest g)

away_second : (xs ys : List Side) (vs half : List Pt) → IsClippedTo xs vs half → IsClippedAway ys half → IsClippedAway (xs ++ ys) vs
away_second [] ys vs half h g = subst (λ (z : List Pt). IsClippedAway ys z) (sym h) g
away_second (s ∷ xs) ys vs half (next, h, rest) g = inr (next, h, away_second xs ys next half rest g)

away_first : (xs ys : List Side) (vs : List Pt) → IsClippedAway xs vs → IsClippedAway (xs ++ ys) vs
away_first [] ys vs h = absurd h
away_first (s ∷ xs) ys vs (inl h) = inl h
away_first (s ∷ xs) ys vs (inr (next, h, rest)) = inr (next, h, away_first xs ys next rest)

-- ---- the child

pub plane_some : (c : Course) (lo hi : ℤ) (vs frame slow : List Pt) (left : Option (List Pt)) → IsFrameOf c.k (child_numbers c.a c.k vs) frame → IsPart (speeds c.v) frame (Some slow) → IsPart (places lo hi) slow left → IsPlaneChild c lo hi vs left
plane_some c lo hi vs frame slow None f h g = (frame, f, away_second (speeds c.v) (places lo hi) frame slow h g)
plane_some c lo hi vs frame slow (Some left) f h g = (frame, f, clipped_both (speeds c.v) (places lo hi) frame slow left h g)

pub plane_none : (c : Course) (lo hi : ℤ) (vs frame : List Pt) → IsFrameOf c.k (child_numbers c.a c.k vs) frame → IsPart (speeds c.v) frame None → IsPlaneChild c lo hi vs None
plane_none c lo hi vs frame f h = (frame, f, away_first (speeds c.v) (places lo hi) frame h)

less : (v w : ℤ) → neg_ℤ v ≤ℤ w → (pos 0 -ℤ w) ≤ℤ v
less v w h = omega (arith, ints)

pub plane_holds : (c : Course) (lo hi : ℤ) (vs frame slow : List Pt) (left : Option (List Pt)) → HoldsFrame (nat_abs c.a) c.k vs frame → KeepsParts (speeds c.v) frame (Some slow) → KeepsParts (places lo hi) slow left → HoldsPlane c lo hi vs left
plane_holds c lo hi vs frame slow left f h g p v q w i t s x =
    g (at q w) (h (at q w) (f p v q w i t) (s.high, (less c.v w s.low, tt))) (x.high, (at_most_opposite lo q x.low, tt))

pub plane_holds_none : (c : Course) (lo hi : ℤ) (vs frame : List Pt) → HoldsFrame (nat_abs c.a) c.k vs frame → KeepsParts (speeds c.v) frame None → HoldsPlane c lo hi vs None
plane_holds_none c lo hi vs frame f h p v q w i t s x = absurd (h (at q w) (f p v q w i t) (s.high, (less c.v w s.low, tt)))

-- ---- its corners

clipped_corners : (lo hi : ℤ) (slow left : List Pt) → IsPart (places lo hi) slow (Some left) → IsCornerList left
clipped_corners lo hi slow left (next, h, (last, g, e)) = subst IsCornerList e g.1.ordered

slow_corners : (v : ℤ) (frame slow : List Pt) → IsPart (speeds v) frame (Some slow) → IsCornerList slow
slow_corners v frame slow (next, h, (last, g, e)) = subst IsCornerList e g.1.ordered

pub plane_within : (lo hi v : ℤ) (frame slow : List Pt) (left : Option (List Pt)) → length frame ≤ 12 → IsPart (speeds v) frame (Some slow) → IsPart (places lo hi) slow left → GainsAtMostTwo frame (Some slow) → GainsAtMostTwo slow left → StaysSlow v (Some slow) → StaysBetween lo hi left → StaysInBox slow left → IfSome left (IsChildIn lo hi v)
plane_within lo hi v frame slow None few p q m n s b x = tt
plane_within lo hi v frame slow (Some left) few p q m n s b x = record {
  few = omega (arith, few, m, n);
  within = all_of (IsInPlane lo hi v) left (λ c i. record {
    place = all_included (λ u. Within lo hi u.x) left c b i;
    speed = record {
      low = low c.x c.y (corner_at_most (pos 0) (neg_ℤ (pos 1)) v slow left c (inr (inr (inr (refl, refl)))) (slow_corners v frame slow p) (clipped_corners lo hi slow left q) x (λ u j. lows u.x u.y (all_included (λ z. Within (neg_ℤ v) v z.y) slow u s j).low) i);
      high = high c.x c.y (corner_at_most (pos 0) (pos 1) v slow left c (inr (inr (inl (refl, refl)))) (slow_corners v frame slow p) (clipped_corners lo hi slow left q) x (λ u j. highs u.x u.y (all_included (λ z. Within (neg_ℤ v) v z.y) slow u s j).high) i);
    };
  });
}
  where
    low : (x y : ℤ) → (pos 0 *ℤ x +ℤ negsuc 0 *ℤ y) ≤ℤ v → neg_ℤ v ≤ℤ y
    low x y h = omega (arith, ints)

    lows : (x y : ℤ) → neg_ℤ v ≤ℤ y → (pos 0 *ℤ x +ℤ negsuc 0 *ℤ y) ≤ℤ v
    lows x y h = omega (arith, ints)

    high : (x y : ℤ) → (pos 0 *ℤ x +ℤ pos 1 *ℤ y) ≤ℤ v → y ≤ℤ v
    high x y h = omega (arith, ints)

    highs : (x y : ℤ) → y ≤ℤ v → (pos 0 *ℤ x +ℤ pos 1 *ℤ y) ≤ℤ v
    highs x y h = omega (arith, ints)
