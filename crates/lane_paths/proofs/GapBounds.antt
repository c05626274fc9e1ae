-- Lists of points that lie beside each other: their hulls are as far apart.
use Rattle.std.proofs.Common.{◌≡◌, inl, inr, ℕ, ◌+◌, ◌*◌, ◌≤◌, ◌<◌, arith, refl, subst, List, [], ◌∷◌, mul-le-mul}
use Rattle.std.proofs.lemmas.Int.{ints}
use Rattle.std.specs.Prelude.{nat_abs}
use lib.IntN.{ℤ, pos, ◌+ℤ◌, ◌-ℤ◌, ◌*ℤ◌}
use lib.Signed.{◌≤ℤ◌}
use Rattle.spot_terms.specs.declared.plain.Pt.{Pt}
use Rattle.spot_terms.specs.Gaps.{IsGap, KeepsApart}
use Rattle.spot_terms.specs.Hull.{FractionPt, InHullAt, dot}
use Rattle.spot_terms.specs.Lists.{Includes}
use Rattle.spot_terms.specs.Whole.{square}
use Rattle.spot_terms.proofs.Hulls.{hull_at_most}
use Rattle.spot_terms.proofs.ListLemmas.{all_of}
use Rattle.spot_terms.proofs.Ring.{ring, var, num, ◌⊕◌, ◌⊖◌, ◌⊗◌}
use Rattle.spot_terms.proofs.Orders.{at_most_of_difference, difference_not_negative}
use Rattle.convex_poly.specs.Pivots.{AreDisjoint}
use Rattle.convex_poly.specs.Boxes.{IsAbove, LieBeside}
use Rattle.lane_paths.specs.GapBounds.{IsGapBound}

-- ---- from points to hulls

-- where each of a is above each of b by n in some direction, so are the points of their hulls, times both divisors
above_hull : (s t : ℤ) (a b : List Pt) (n : ℕ) (p q : FractionPt) → ((u v : Pt) → Includes a u → Includes b v → (dot s t v +ℤ pos n) ≤ℤ dot s t u) → InHullAt a p → InHullAt b q
    → pos 0 ≤ℤ (((((s *ℤ p.x) +ℤ (t *ℤ p.y)) *ℤ pos q.d) -ℤ (((s *ℤ q.x) +ℤ (t *ℤ q.y)) *ℤ pos p.d)) -ℤ (pos n *ℤ (pos q.d *ℤ pos p.d)))
above_hull s t a b n p q above i j =
    subst (λ z. pos 0 ≤ℤ z) (whole s t p.x p.y q.x q.y (pos p.d) (pos q.d) (pos n))
    (difference_not_negative _ _ (hull_at_most (pos 0 -ℤ (s *ℤ pos q.d)) (pos 0 -ℤ (t *ℤ pos q.d)) ((pos 0 -ℤ ((s *ℤ q.x) +ℤ (t *ℤ q.y))) -ℤ (pos n *ℤ pos q.d)) a p
    (all_of (λ u. dot (pos 0 -ℤ (s *ℤ pos q.d)) (pos 0 -ℤ (t *ℤ pos q.d)) u ≤ℤ ((pos 0 -ℤ ((s *ℤ q.x) +ℤ (t *ℤ q.y))) -ℤ (pos n *ℤ pos q.d))) a
    (λ u k. turned s t u.x u.y (pos q.d) (pos n) ((s *ℤ q.x) +ℤ (t *ℤ q.y))
    (hull_at_most s t (dot s t u -ℤ pos n) b q (all_of (λ v. dot s t v ≤ℤ (dot s t u -ℤ pos n)) b (λ v l. moved (dot s t v) (dot s t u) (pos n) (above u v k l))) j))) i))
  where
    moved : (x y n : ℤ) → (x +ℤ n) ≤ℤ y → x ≤ℤ (y -ℤ n)
    moved x y n h = omega (arith, ints)

    turned : (s t x y d n Q : ℤ) → Q ≤ℤ ((((s *ℤ x) +ℤ (t *ℤ y)) -ℤ n) *ℤ d) → (((pos 0 -ℤ (s *ℤ d)) *ℤ x) +ℤ ((pos 0 -ℤ (t *ℤ d)) *ℤ y)) ≤ℤ ((pos 0 -ℤ Q) -ℤ (n *ℤ d))
    turned s t x y d n Q h = at_most_of_difference _ _ (subst (λ z. pos 0 ≤ℤ z) (ring (s ∷ t ∷ x ∷ y ∷ d ∷ n ∷ Q ∷ [])
        (((((var 0 ⊗ var 2) ⊕ (var 1 ⊗ var 3)) ⊖ var 5) ⊗ var 4) ⊖ var 6)
        (((num (pos 0) ⊖ var 6) ⊖ (var 5 ⊗ var 4)) ⊖ (((num (pos 0) ⊖ (var 0 ⊗ var 4)) ⊗ var 2) ⊕ ((num (pos 0) ⊖ (var 1 ⊗ var 4)) ⊗ var 3))) refl) (difference_not_negative _ _ h))

    whole : (s t p r q v d e n : ℤ) → (((pos 0 -ℤ ((s *ℤ q) +ℤ (t *ℤ v))) -ℤ (n *ℤ e)) *ℤ d) -ℤ (((pos 0 -ℤ (s *ℤ e)) *ℤ p) +ℤ ((pos 0 -ℤ (t *ℤ e)) *ℤ r))
        ≡ ((((s *ℤ p) +ℤ (t *ℤ r)) *ℤ e) -ℤ (((s *ℤ q) +ℤ (t *ℤ v)) *ℤ d)) -ℤ (n *ℤ (e *ℤ d))
    whole s t p r q v d e n = ring (s ∷ t ∷ p ∷ r ∷ q ∷ v ∷ d ∷ e ∷ n ∷ [])
        ((((num (pos 0) ⊖ ((var 0 ⊗ var 4) ⊕ (var 1 ⊗ var 5))) ⊖ (var 8 ⊗ var 7)) ⊗ var 6) ⊖ (((num (pos 0) ⊖ (var 0 ⊗ var 7)) ⊗ var 2) ⊕ ((num (pos 0) ⊖ (var 1 ⊗ var 7)) ⊗ var 3)))
        (((((var 0 ⊗ var 2) ⊕ (var 1 ⊗ var 3)) ⊗ var 7) ⊖ (((var 0 ⊗ var 4) ⊕ (var 1 ⊗ var 5)) ⊗ var 6)) ⊖ (var 8 ⊗ (var 7 ⊗ var 6))) refl

-- so are their first coordinates
above_x : (a b : List Pt) (n : ℕ) (p q : FractionPt) → IsAbove (λ u. u.x) a b n → InHullAt a p → InHullAt b q → n * p.d * q.d ≤ nat_abs (q.x *ℤ pos p.d -ℤ p.x *ℤ pos q.d)
above_x a b n p q above i j = size n p.d q.d (q.x *ℤ pos p.d) (p.x *ℤ pos q.d)
    (subst (λ z. pos 0 ≤ℤ z) (only p.x p.y q.x q.y (pos p.d) (pos q.d) (pos n)) (above_hull (pos 1) (pos 0) a b n p q (λ u v k l. along u.x u.y v.x v.y (pos n) (above u v k l)) i j))
  where
    along : (x y z w n : ℤ) → (z +ℤ n) ≤ℤ x → (((pos 1 *ℤ z) +ℤ (pos 0 *ℤ w)) +ℤ n) ≤ℤ ((pos 1 *ℤ x) +ℤ (pos 0 *ℤ y))
    along x y z w n h = omega (arith, ints)

    only : (p r q v d e n : ℤ) → ((((pos 1 *ℤ p) +ℤ (pos 0 *ℤ r)) *ℤ e) -ℤ (((pos 1 *ℤ q) +ℤ (pos 0 *ℤ v)) *ℤ d)) -ℤ (n *ℤ (e *ℤ d)) ≡ ((p *ℤ e) -ℤ (q *ℤ d)) -ℤ (n *ℤ (e *ℤ d))
    only p r q v d e n = ring (p ∷ r ∷ q ∷ v ∷ d ∷ e ∷ n ∷ [])
        (((((num (pos 1) ⊗ var 0) ⊕ (num (pos 0) ⊗ var 1)) ⊗ var 5) ⊖ (((num (pos 1) ⊗ var 2) ⊕ (num (pos 0) ⊗ var 3)) ⊗ var 4)) ⊖ (var 6 ⊗ (var 5 ⊗ var 4)))
        (((var 0 ⊗ var 5) ⊖ (var 2 ⊗ var 4)) ⊖ (var 6 ⊗ (var 5 ⊗ var 4))) refl

    size : (n d e : ℕ) (X Y : ℤ) → pos 0 ≤ℤ ((Y -ℤ X) -ℤ (pos n *ℤ (pos e *ℤ pos d))) → n * d * e ≤ nat_abs (X -ℤ Y)
    size n d e X Y h = let g : n * (e * d) ≤ nat_abs (X -ℤ Y) = omega (arith, ints, h) in omega (arith, g)

-- and their second ones
above_y : (a b : List Pt) (n : ℕ) (p q : FractionPt) → IsAbove (λ u. u.y) a b n → InHullAt a p → InHullAt b q → n * p.d * q.d ≤ nat_abs (q.y *ℤ pos p.d -ℤ p.y *ℤ pos q.d)
above_y a b n p q above i j = size n p.d q.d (q.y *ℤ pos p.d) (p.y *ℤ pos q.d)
    (subst (λ z. pos 0 ≤ℤ z) (only p.x p.y q.x q.y (pos p.d) (pos q.d) (pos n)) (above_hull (pos 0) (pos 1) a b n p q (λ u v k l. along u.x u.y v.x v.y (pos n) (above u v k l)) i j))
  where
    along : (x y z w n : ℤ) → (w +ℤ n) ≤ℤ y → (((pos 0 *ℤ z) +ℤ (pos 1 *ℤ w)) +ℤ n) ≤ℤ ((pos 0 *ℤ x) +ℤ (pos 1 *ℤ y))
    along x y z w n h = omega (arith, ints)

    only : (p r q v d e n : ℤ) → ((((pos 0 *ℤ p) +ℤ (pos 1 *ℤ r)) *ℤ e) -ℤ (((pos 0 *ℤ q) +ℤ (pos 1 *ℤ v)) *ℤ d)) -ℤ (n *ℤ (e *ℤ d)) ≡ ((r *ℤ e) -ℤ (v *ℤ d)) -ℤ (n *ℤ (e *ℤ d))
    only p r q v d e n = ring (p ∷ r ∷ q ∷ v ∷ d ∷ e ∷ n ∷ [])
        (((((num (pos 0) ⊗ var 0) ⊕ (num (pos 1) ⊗ var 1)) ⊗ var 5) ⊖ (((num (pos 0) ⊗ var 2) ⊕ (num (pos 1) ⊗ var 3)) ⊗ var 4)) ⊖ (var 6 ⊗ (var 5 ⊗ var 4)))
        (((var 1 ⊗ var 5) ⊖ (var 3 ⊗ var 4)) ⊖ (var 6 ⊗ (var 5 ⊗ var 4))) refl

    size : (n d e : ℕ) (X Y : ℤ) → pos 0 ≤ℤ ((Y -ℤ X) -ℤ (pos n *ℤ (pos e *ℤ pos d))) → n * d * e ≤ nat_abs (X -ℤ Y)
    size n d e X Y h = let g : n * (e * d) ≤ nat_abs (X -ℤ Y) = omega (arith, ints, h) in omega (arith, g)

-- ---- the gap

-- a size that is at least w has a square that is at least that of w
squared_first : (w : ℕ) (z y : ℤ) → w ≤ nat_abs z → w * w ≤ square z + square y
squared_first w z y h = let g : w * w ≤ nat_abs z * nat_abs z = mul-le-mul h h in omega (arith, g)

squared_second : (w : ℕ) (z y : ℤ) → w ≤ nat_abs y → w * w ≤ square z + square y
squared_second w z y h = let g : w * w ≤ nat_abs y * nat_abs y = mul-le-mul h h in omega (arith, g)

-- the other way round
turned_size : (n d e : ℕ) (X Y : ℤ) → n * e * d ≤ nat_abs (Y -ℤ X) → n * d * e ≤ nat_abs (X -ℤ Y)
turned_size n d e X Y h = let g : n * (e * d) ≤ nat_abs (X -ℤ Y) = omega (arith, ints, h) in omega (arith, g)

-- lists that lie beside each other by n keep so far apart
pub apart_beside : (a b : List Pt) (n : ℕ) → LieBeside a b n → KeepsApart a b n
apart_beside a b n (inl e) p q hp hq i j = subst (λ (m : ℕ). (m * p.d * q.d) * (m * p.d * q.d) ≤ square (q.x *ℤ pos p.d -ℤ p.x *ℤ pos q.d) + square (q.y *ℤ pos p.d -ℤ p.y *ℤ pos q.d)) (zero_is e) (omega arith)
  where
    zero_is : n ≡ 0 → 0 ≡ n
    zero_is e = cc
apart_beside a b n (inr (inl h)) p q hp hq i j = squared_first (n * p.d * q.d) (q.x *ℤ pos p.d -ℤ p.x *ℤ pos q.d) (q.y *ℤ pos p.d -ℤ p.y *ℤ pos q.d) (above_x a b n p q h i j)
apart_beside a b n (inr (inr (inl h))) p q hp hq i j = squared_first (n * p.d * q.d) (q.x *ℤ pos p.d -ℤ p.x *ℤ pos q.d) (q.y *ℤ pos p.d -ℤ p.y *ℤ pos q.d) (turned_size n p.d q.d (q.x *ℤ pos p.d) (p.x *ℤ pos q.d) (above_x b a n q p h j i))
apart_beside a b n (inr (inr (inr (inl h)))) p q hp hq i j = squared_second (n * p.d * q.d) (q.x *ℤ pos p.d -ℤ p.x *ℤ pos q.d) (q.y *ℤ pos p.d -ℤ p.y *ℤ pos q.d) (above_y a b n p q h i j)
apart_beside a b n (inr (inr (inr (inr h)))) p q hp hq i j = squared_second (n * p.d * q.d) (q.x *ℤ pos p.d -ℤ p.x *ℤ pos q.d) (q.y *ℤ pos p.d -ℤ p.y *ℤ pos q.d) (turned_size n p.d q.d (q.y *ℤ pos p.d) (p.y *ℤ pos q.d) (above_y b a n q p h j i))

-- where n isn't 0 they have no common point
pub disjoint_beside : (a b : List Pt) (n : ℕ) → 0 < n → LieBeside a b n → AreDisjoint a b
disjoint_beside a b n some h p hp i j = none n p.d (p.x *ℤ pos p.d) (p.y *ℤ pos p.d) some hp (apart_beside a b n h p p hp hp i j)
  where
    none : (n d : ℕ) (X Y : ℤ) → 0 < n → 1 ≤ d → (n * d * d) * (n * d * d) ≤ square (X -ℤ X) + square (Y -ℤ Y) → ⊥
    none n d X Y some hd k =
        let zero_x : nat_abs (X -ℤ X) ≡ 0 = omega (arith, ints) in
        let zero_y : nat_abs (Y -ℤ Y) ≡ 0 = omega (arith, ints) in
        let low : 1 * 1 ≤ n * d = mul-le-mul some hd in
        let more : (1 * 1) * 1 ≤ (n * d) * d = mul-le-mul low hd in
        let all : ((1 * 1) * 1) * ((1 * 1) * 1) ≤ (n * d * d) * (n * d * d) = mul-le-mul more more in
        let high : (n * d * d) * (n * d * d) ≤ 0 * 0 + 0 * 0 = subst (λ (z : ℕ). (n * d * d) * (n * d * d) ≤ 0 * 0 + z * z) zero_y (subst (λ (z : ℕ). (n * d * d) * (n * d * d) ≤ z * z + nat_abs (Y -ℤ Y) * nat_abs (Y -ℤ Y)) zero_x k) in
        omega (arith, all, high)

-- what the boxes tell is at most the gap
pub bound_below : (a b : List Pt) (n g : ℕ) → IsGapBound a b n → IsGap a b g → n ≤ g
bound_below a b n g (inl h) k = let e = h.1 in omega (arith, e)
bound_below a b n g (inr h) (inl k) = absurd (h.0 k.0)
bound_below a b n g (inr h) (inr k) = k.1.greatest n (apart_beside a b n h.1.holds)

-- there is one such number
pub bound_one : (a b : List Pt) (n m : ℕ) → IsGapBound a b n → IsGapBound a b m → n ≡ m
bound_one a b n m (inl h) (inl k) = let e = h.1 in let f = k.1 in omega (arith, e, f)
bound_one a b n m (inl h) (inr k) = absurd (k.0 h.0)
bound_one a b n m (inr h) (inl k) = absurd (h.0 k.0)
bound_one a b n m (inr h) (inr k) = let up = k.1.greatest n h.1.holds in let down = h.1.greatest m k.1.holds in omega (arith, up, down)
