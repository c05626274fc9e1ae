-- Boxes coordinate the axes: point by point, and what they tell of the points.
use Rattle.std.proofs.Common.{◌≡◌, ◌⊎◌, inl, inr, ℕ, ◌+◌, ◌≤◌, ◌<◌, max, to_z, of_z, w64, arith, refl, sym, ◌∙◌, subst, List, take, length, slice_index_or}
use Rattle.std.proofs.lemmas.Int.{ints}
use Rattle.std.proofs.lemmas.List.{take_all}
use Rattle.std.specs.Int.{int_gap, int_max, int_min}
use lib.IntN.{ℤ, pos, negsuc, neg_ℤ, ◌+ℤ◌}
use lib.Signed.{◌≤ℤ◌}
use Rattle.spot_terms.specs.declared.plain.Pt.{Pt}
use Rattle.spot_terms.specs.Bodies.{IsGreatest}
use Rattle.spot_terms.specs.Hull.{dot, InHull, IsSupport}
use Rattle.spot_terms.specs.Lists.{Includes}
use Rattle.spot_terms.proofs.ListLemmas.{includes_at, includes_taken}
use Rattle.spot_terms.proofs.Hulls.{support_bounds_whole}
use Rattle.spot_terms.proofs.Orders.{at_most_or_at_least, at_most_trans, lesser_is, greater_is}
use Rattle.convex_poly.specs.declared.boxes.BoundingBox.{BoundingBox}
use Rattle.convex_poly.specs.Boxes.{IsAbove, IsBoxOf, IsHighest, IsInBox, IsLowest, LieBeside}

-- ---- the least and the greatest value of a coordinate, point by point

-- n is at most that of the first i points, and one of the points has it
pub record IsLowestSoFar (coordinate : Pt → ℤ) (points : List Pt) (i : ℕ) (n : ℤ) : Type 0 where
  pub each : (p : Pt) → Includes (take i points) p → n ≤ℤ coordinate p
  pub one : (p : Pt) × Includes points p × (coordinate p ≡ n)

pub record IsHighestSoFar (coordinate : Pt → ℤ) (points : List Pt) (i : ℕ) (n : ℤ) : Type 0 where
  pub each : (p : Pt) → Includes (take i points) p → coordinate p ≤ℤ n
  pub one : (p : Pt) × Includes points p × (coordinate p ≡ n)

-- one more point
lowest_more : (coordinate : Pt → ℤ) (points : List Pt) (i : ℕ) (d : Pt) (before now : ℤ) → i < length points → IsLowestSoFar coordinate points i before → now ≡ int_min before (coordinate (slice_index_or points i d)) → IsLowestSoFar coordinate points (i + 1) now
lowest_more coordinate points i d before now h k e = let m = lesser_is before (coordinate (slice_index_or points i d)) now e in record {
  each = λ p j. elim (includes_taken points i d p h j) [
    | inl front ↦ at_most_trans now before (coordinate p) m.0 (k.each p front)
    | inr same ↦ subst (λ (z : Pt). now ≤ℤ coordinate z) (sym same) m.1.0
  ];
  one = elim m.1.1 [
    | inl old ↦ (k.one.0, k.one.1, k.one.2 ∙ sym old)
    | inr new ↦ (slice_index_or points i d, includes_at points i d h, sym new)
  ];
}

highest_more : (coordinate : Pt → ℤ) (points : List Pt) (i : ℕ) (d : Pt) (before now : ℤ) → i < length points → IsHighestSoFar coordinate points i before → now ≡ int_max before (coordinate (slice_index_or points i d)) → IsHighestSoFar coordinate points (i + 1) now
highest_more coordinate points i d before now h k e = let m = greater_is before (coordinate (slice_index_or points i d)) now e in record {
  each = λ p j. elim (includes_taken points i d p h j) [
    | inl front ↦ at_most_trans (coordinate p) before now (k.each p front) m.0
    | inr same ↦ subst (λ (z : Pt). coordinate z ≤ℤ now) (sym same) m.1.0
  ];
  one = elim m.1.1 [
    | inl old ↦ (k.one.0, k.one.1, k.one.2 ∙ sym old)
    | inr new ↦ (slice_index_or points i d, includes_at points i d h, sym new)
  ];
}

-- ---- the box, point by point

-- each side is past the first i points, and one of the points lies on it
pub record IsBoxSoFar (points : List Pt) (i : ℕ) (box : BoundingBox) : Type 0 where
  pub left : IsLowestSoFar (λ p. p.x) points i box.low.x
  pub right : IsHighestSoFar (λ p. p.x) points i box.high.x
  pub bottom : IsLowestSoFar (λ p. p.y) points i box.low.y
  pub top : IsHighestSoFar (λ p. p.y) points i box.high.y

-- at first it is the first point
pub box_first : (points : List Pt) (d : Pt) → 0 < length points → IsBoxSoFar points 0 (record { low = slice_index_or points 0 d; high = slice_index_or points 0 d })
box_first points d h = record {
  left = record { each = λ p i. absurd i; one = (slice_index_or points 0 d, includes_at points 0 d h, refl) };
  right = record { each = λ p i. absurd i; one = (slice_index_or points 0 d, includes_at points 0 d h, refl) };
  bottom = record { each = λ p i. absurd i; one = (slice_index_or points 0 d, includes_at points 0 d h, refl) };
  top = record { each = λ p i. absurd i; one = (slice_index_or points 0 d, includes_at points 0 d h, refl) };
}

-- one more point
pub box_more : (points : List Pt) (i : ℕ) (d : Pt) (before now : BoundingBox) → i < length points → IsBoxSoFar points i before → now.low.x ≡ int_min before.low.x (slice_index_or points i d).x → now.high.x ≡ int_max before.high.x (slice_index_or points i d).x
    → now.low.y ≡ int_min before.low.y (slice_index_or points i d).y → now.high.y ≡ int_max before.high.y (slice_index_or points i d).y → IsBoxSoFar points (i + 1) now
box_more points i d before now h k left right bottom top = record {
  left = lowest_more (λ p. p.x) points i d before.low.x now.low.x h k.left left;
  right = highest_more (λ p. p.x) points i d before.high.x now.high.x h k.right right;
  bottom = lowest_more (λ p. p.y) points i d before.low.y now.low.y h k.bottom bottom;
  top = highest_more (λ p. p.y) points i d before.high.y now.high.y h k.top top;
}

-- past the last place it is that of all points
pub box_all : (points : List Pt) (i : ℕ) (box : BoundingBox) → length points ≤ i → IsBoxSoFar points i box → IsBoxOf points box
box_all points i box h k = record {
  left = record { each = λ p j. k.left.each p (front p j); one = k.left.one };
  right = record { each = λ p j. k.right.each p (front p j); one = k.right.one };
  bottom = record { each = λ p j. k.bottom.each p (front p j); one = k.bottom.one };
  top = record { each = λ p j. k.top.each p (front p j); one = k.top.one };
}
  where
    front : (p : Pt) → Includes points p → Includes (take i points) p
    front p j = subst (λ (l : List Pt). Includes l p) (sym (take_all i points h)) j

-- the corners that a call hands over are those of the polygon
pub box_same : (us vs : List Pt) (box : BoundingBox) → us ≡ vs → IsBoxOf us box → IsBoxOf vs box
box_same us vs box e h = subst (λ (l : List Pt). IsBoxOf l box) e h

-- ---- points of a hull

-- where one side is the least value of a coordinate, it is the support against it, and a greatest value that along it
lowest_x : (corners : List Pt) (n : ℤ) → IsLowest (λ p. p.x) corners n → IsSupport corners (negsuc 0) (pos 0) (neg_ℤ n)
lowest_x corners n l = record { bound = λ c i. back c.x c.y n (l.each c i); reached = (l.one.0, l.one.1, same l.one.0.x l.one.0.y n l.one.2) }
  where
    back : (x y n : ℤ) → n ≤ℤ x → dot (negsuc 0) (pos 0) (record { x = x; y = y }) ≤ℤ neg_ℤ n
    back x y n h = omega (arith, ints, h)

    same : (x y n : ℤ) → x ≡ n → dot (negsuc 0) (pos 0) (record { x = x; y = y }) ≡ neg_ℤ n
    same x y n h = omega (arith, ints, h)

highest_x : (corners : List Pt) (n : ℤ) → IsHighest (λ p. p.x) corners n → IsSupport corners (pos 1) (pos 0) n
highest_x corners n l = record { bound = λ c i. up c.x c.y n (l.each c i); reached = (l.one.0, l.one.1, same l.one.0.x l.one.0.y n l.one.2) }
  where
    up : (x y n : ℤ) → x ≤ℤ n → dot (pos 1) (pos 0) (record { x = x; y = y }) ≤ℤ n
    up x y n h = omega (arith, ints, h)

    same : (x y n : ℤ) → x ≡ n → dot (pos 1) (pos 0) (record { x = x; y = y }) ≡ n
    same x y n h = omega (arith, ints, h)

lowest_y : (corners : List Pt) (n : ℤ) → IsLowest (λ p. p.y) corners n → IsSupport corners (pos 0) (negsuc 0) (neg_ℤ n)
lowest_y corners n l = record { bound = λ c i. back c.x c.y n (l.each c i); reached = (l.one.0, l.one.1, same l.one.0.x l.one.0.y n l.one.2) }
  where
    back : (x y n : ℤ) → n ≤ℤ y → dot (pos 0) (negsuc 0) (record { x = x; y = y }) ≤ℤ neg_ℤ n
    back x y n h = omega (arith, ints, h)

    same : (x y n : ℤ) → y ≡ n → dot (pos 0) (negsuc 0) (record { x = x; y = y }) ≡ neg_ℤ n
    same x y n h = omega (arith, ints, h)

highest_y : (corners : List Pt) (n : ℤ) → IsHighest (λ p. p.y) corners n → IsSupport corners (pos 0) (pos 1) n
highest_y corners n l = record { bound = λ c i. up c.x c.y n (l.each c i); reached = (l.one.0, l.one.1, same l.one.0.x l.one.0.y n l.one.2) }
  where
    up : (x y n : ℤ) → y ≤ℤ n → dot (pos 0) (pos 1) (record { x = x; y = y }) ≤ℤ n
    up x y n h = omega (arith, ints, h)

    same : (x y n : ℤ) → y ≡ n → dot (pos 0) (pos 1) (record { x = x; y = y }) ≡ n
    same x y n h = omega (arith, ints, h)

left_of : (x y z : ℤ) → dot (negsuc 0) (pos 0) (record { x = x; y = y }) ≤ℤ neg_ℤ z → z ≤ℤ x
left_of x y z h = omega (arith, ints, h)

right_of : (x y z : ℤ) → dot (pos 1) (pos 0) (record { x = x; y = y }) ≤ℤ z → x ≤ℤ z
right_of x y z h = omega (arith, ints, h)

below : (x y z : ℤ) → dot (pos 0) (negsuc 0) (record { x = x; y = y }) ≤ℤ neg_ℤ z → z ≤ℤ y
below x y z h = omega (arith, ints, h)

above : (x y z : ℤ) → dot (pos 0) (pos 1) (record { x = x; y = y }) ≤ℤ z → y ≤ℤ z
above x y z h = omega (arith, ints, h)

-- each point of the hull is in the box
pub box_has : (corners : List Pt) (box : BoundingBox) (p : Pt) → IsBoxOf corners box → InHull corners p → IsInBox box p
box_has corners box p b h = (
  record {
    low = left_of p.x p.y box.low.x (support_bounds_whole corners (negsuc 0) (pos 0) (neg_ℤ box.low.x) p (lowest_x corners box.low.x b.left) h);
    high = right_of p.x p.y box.high.x (support_bounds_whole corners (pos 1) (pos 0) box.high.x p (highest_x corners box.high.x b.right) h);
  },
  record {
    low = below p.x p.y box.low.y (support_bounds_whole corners (pos 0) (negsuc 0) (neg_ℤ box.low.y) p (lowest_y corners box.low.y b.bottom) h);
    high = above p.x p.y box.high.y (support_bounds_whole corners (pos 0) (pos 1) box.high.y p (highest_y corners box.high.y b.top) h);
  },
)

-- ---- points that lie beside each other

-- how far a number is above another
gap_above : (s t : ℤ) → s ≤ℤ t → (s +ℤ pos (int_gap s t)) ≡ t
gap_above (pos m) (pos n) h = omega (arith, ints)
gap_above (pos m) (negsuc n) h = absurd (omega (arith, ints))
gap_above (negsuc m) (pos n) h = omega (arith, ints)
gap_above (negsuc m) (negsuc n) h = omega (arith, ints)

gap_below : (s t : ℤ) → t ≤ℤ s → int_gap s t ≡ 0
gap_below (pos m) (pos n) h = omega (arith, ints)
gap_below (pos m) (negsuc n) h = refl
gap_below (negsuc m) (pos n) h = absurd (omega (arith, ints))
gap_below (negsuc m) (negsuc n) h = omega (arith, ints)

-- n is 0 or the points of a are above those of b by it, and by no more
record IsRise (coordinate : Pt → ℤ) (a b : List Pt) (n : ℕ) : Type 0 where
  pub holds : (n ≡ 0) ⊎ IsAbove coordinate a b n
  pub greatest : (q : ℕ) → IsAbove coordinate a b q → q ≤ n

side_rise : (coordinate : Pt → ℤ) (a b : List Pt) (low high : ℤ) → IsLowest coordinate a low → IsHighest coordinate b high → IsRise coordinate a b (int_gap high low)
side_rise coordinate a b low high l h = record {
  holds = elim (at_most_or_at_least high low) [
    | inl up ↦ inr (λ p q i j. further (coordinate p) (coordinate q) low high (int_gap high low) (l.each p i) (h.each q j) (gap_above high low up))
    | inr down ↦ inl (gap_below high low down)
  ];
  greatest = λ q k. elim (at_most_or_at_least high low) [
    | inl up ↦ within (coordinate l.one.0) (coordinate h.one.0) low high q (int_gap high low) l.one.2 h.one.2 (gap_above high low up) (k l.one.0 h.one.0 l.one.1 h.one.1)
    | inr down ↦ none (coordinate l.one.0) (coordinate h.one.0) low high q (int_gap high low) l.one.2 h.one.2 down (k l.one.0 h.one.0 l.one.1 h.one.1)
  ];
}
  where
    further : (s t low high : ℤ) (n : ℕ) → low ≤ℤ s → t ≤ℤ high → (high +ℤ pos n) ≡ low → (t +ℤ pos n) ≤ℤ s
    further s t low high n h k e = omega (arith, ints)

    within : (s t low high : ℤ) (q n : ℕ) → s ≡ low → t ≡ high → (high +ℤ pos n) ≡ low → (t +ℤ pos q) ≤ℤ s → q ≤ n
    within s t low high q n e f g h = omega (arith, ints)

    none : (s t low high : ℤ) (q n : ℕ) → s ≡ low → t ≡ high → low ≤ℤ high → (t +ℤ pos q) ≤ℤ s → q ≤ n
    none s t low high q n e f g h = omega (arith, ints)

-- the greatest of the four
four : (a b : List Pt) (right left up down x y n : ℕ) → IsRise (λ p. p.x) b a right → IsRise (λ p. p.x) a b left → IsRise (λ p. p.y) b a up → IsRise (λ p. p.y) a b down → x ≡ max right left → y ≡ max up down → n ≡ max x y → IsGreatest (LieBeside a b) n
four a b right left up down x y n r l u d x_is y_is n_is = record {
  holds = elim (one_of x y n n_is) [
    | inl e ↦ elim (one_of right left x x_is) [
      | inl f ↦ subst (LieBeside a b) (sym (e ∙ f)) (elim r.holds [ inl z ↦ inl z | inr h ↦ inr (inr (inl h)) ])
      | inr f ↦ subst (LieBeside a b) (sym (e ∙ f)) (elim l.holds [ inl z ↦ inl z | inr h ↦ inr (inl h) ])
    ]
    | inr e ↦ elim (one_of up down y y_is) [
      | inl f ↦ subst (LieBeside a b) (sym (e ∙ f)) (elim u.holds [ inl z ↦ inl z | inr h ↦ inr (inr (inr (inr h))) ])
      | inr f ↦ subst (LieBeside a b) (sym (e ∙ f)) (elim d.holds [ inl z ↦ inl z | inr h ↦ inr (inr (inr (inl h))) ])
    ]
  ];
  greatest = most;
}
  where
    one_of : (s t m : ℕ) → m ≡ max s t → (m ≡ s) ⊎ (m ≡ t)
    one_of s t m e = grind arith

    in_first : (q s t x y n : ℕ) → x ≡ max s t → n ≡ max x y → (q ≤ s) ⊎ (q ≤ t) → q ≤ n
    in_first q s t x y n e f h = grind arith

    in_second : (q s t x y n : ℕ) → y ≡ max s t → n ≡ max x y → (q ≤ s) ⊎ (q ≤ t) → q ≤ n
    in_second q s t x y n e f h = grind arith

    most : (q : ℕ) → LieBeside a b q → q ≤ n
    most q (inl z) = omega (arith, z)
    most q (inr (inl h)) = in_first q right left x y n x_is n_is (inr (l.greatest q h))
    most q (inr (inr (inl h))) = in_first q right left x y n x_is n_is (inl (r.greatest q h))
    most q (inr (inr (inr (inl h)))) = in_second q up down x y n y_is n_is (inr (d.greatest q h))
    most q (inr (inr (inr (inr h)))) = in_second q up down x y n y_is n_is (inl (u.greatest q h))

-- how far the boxes tell that the points lie beside each other
pub beside_boxes : (a b : List Pt) (box other : BoundingBox) (x y n : ℕ) → IsBoxOf a box → IsBoxOf b other → x ≡ max (int_gap box.high.x other.low.x) (int_gap other.high.x box.low.x) → y ≡ max (int_gap box.high.y other.low.y) (int_gap other.high.y box.low.y)
    → n ≡ max x y → IsGreatest (LieBeside a b) n
beside_boxes a b box other x y n h k x_is y_is n_is = four a b _ _ _ _ x y n
    (side_rise (λ p. p.x) b a other.low.x box.high.x k.left h.right) (side_rise (λ p. p.x) a b box.low.x other.high.x h.left k.right)
    (side_rise (λ p. p.y) b a other.low.y box.high.y k.bottom h.top) (side_rise (λ p. p.y) a b box.low.y other.high.y h.bottom k.top) x_is y_is n_is

-- the numbers of an axis, as the code hands them over
pub two_rises : (i j k l : ℤ) (r s x : ℕ) → i ≡ to_z w64 (of_z w64 i) → j ≡ to_z w64 (of_z w64 j) → k ≡ to_z w64 (of_z w64 k) → l ≡ to_z w64 (of_z w64 l) → r ≡ int_gap (to_z w64 (of_z w64 i)) (to_z w64 (of_z w64 j))
    → s ≡ int_gap (to_z w64 (of_z w64 k)) (to_z w64 (of_z w64 l)) → x ≡ max r s → x ≡ max (int_gap i j) (int_gap k l)
two_rises i j k l r s x i_fits j_fits k_fits l_fits r_is s_is x_is = cc
