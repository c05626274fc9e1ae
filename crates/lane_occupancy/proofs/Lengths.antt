-- How long ways are: the triangle inequality at fraction points, the pieces of a trip, and gaps.
use Rattle.std.proofs.Common.{◌≡◌, ◌∙◌, inl, inr, ℕ, ◌+◌, ◌*◌, ◌≤◌, ◌<◌, arith, refl, sym, ap, subst, List, [], ◌∷◌, mul-le-mul, mul-le-mul_left, le_of_mul-le-mul_right, ℤ, pos, ◌+ℤ◌, ◌-ℤ◌, ◌*ℤ◌, ◌≤ℤ◌}
use Rattle.std.proofs.lemmas.Int.{ints}
use Rattle.std.proofs.lemmas.List.Sums.{sum_by-cons}
use Rattle.spot_terms.specs.Gaps.{IsWithinDistance, IsGap}
use Rattle.spot_terms.specs.Hull.{FractionPt, InHullAt}
use Rattle.spot_terms.specs.LaneMotions.{IsAsLong, Entry, trip_length}
use Rattle.spot_terms.specs.Whole.{square}
use Rattle.spot_terms.specs.declared.plain.Pt.{Pt}
use Rattle.spot_terms.proofs.Mixes.{positive_times}
use Rattle.spot_terms.proofs.Products.{at_most_root, square_not_negative, square_of_size}
use Rattle.spot_terms.proofs.Ring.{ring, var, num, ◌⊕◌, ◌⊖◌, ◌⊗◌}
use Rattle.lane_occupancy.specs.Laws.{ArePieces}
use Rattle.spot_terms.proofs.Orders.{pos_injective, minus_itself, at_most_of_squares}

-- ---- two vectors and their sum

-- the squared length of a vector
squares : (u t : ℤ) → pos (square u + square t) ≡ (u *ℤ u) +ℤ (t *ℤ t)
squares u t = omega (arith, ints, square_of_size u, square_of_size t)

-- the product of the squared lengths is the square of the one product plus the square of the other
squares_times : (u t x y : ℤ) → pos ((square u + square t) * (square x + square y)) ≡ (((u *ℤ x) +ℤ (t *ℤ y)) *ℤ ((u *ℤ x) +ℤ (t *ℤ y))) +ℤ (((u *ℤ y) -ℤ (t *ℤ x)) *ℤ ((u *ℤ y) -ℤ (t *ℤ x)))
squares_times u t x y =
    ap (λ z. z *ℤ pos (square x + square y)) (squares u t) ∙ ap (λ z. ((u *ℤ u) +ℤ (t *ℤ t)) *ℤ z) (squares x y)
    ∙ ring (u ∷ t ∷ x ∷ y ∷ []) (((var 0 ⊗ var 0) ⊕ (var 1 ⊗ var 1)) ⊗ ((var 2 ⊗ var 2) ⊕ (var 3 ⊗ var 3)))
    ((((var 0 ⊗ var 2) ⊕ (var 1 ⊗ var 3)) ⊗ ((var 0 ⊗ var 2) ⊕ (var 1 ⊗ var 3))) ⊕ (((var 0 ⊗ var 3) ⊖ (var 1 ⊗ var 2)) ⊗ ((var 0 ⊗ var 3) ⊖ (var 1 ⊗ var 2)))) refl

-- the inner product is at most the product of the lengths
inner_le : (u t x y : ℤ) (W V : ℕ) → square u + square t ≤ W * W → square x + square y ≤ V * V → ((u *ℤ x) +ℤ (t *ℤ y)) ≤ℤ pos (W * V)
inner_le u t x y W V e f =
    at_most_root ((u *ℤ x) +ℤ (t *ℤ y)) ((W * V) * (W * V)) (W * V)
    (part ((u *ℤ x) +ℤ (t *ℤ y)) ((u *ℤ y) -ℤ (t *ℤ x)) ((square u + square t) * (square x + square y)) (squares_times u t x y) (mul-le-mul e f)) (omega arith)
  where
    part : (P Q : ℤ) (n : ℕ) → pos n ≡ (P *ℤ P) +ℤ (Q *ℤ Q) → n ≤ (W * W) * (V * V) → (P *ℤ P) ≤ℤ pos ((W * V) * (W * V))
    part P Q n h k = let m : n ≤ (W * V) * (W * V) = omega (arith, k) in omega (arith, ints, square_not_negative Q, h, m)

-- the sum of two vectors is at most as long as both together
sum_long : (u t x y : ℤ) (W V : ℕ) → square u + square t ≤ W * W → square x + square y ≤ V * V → square (u +ℤ x) + square (t +ℤ y) ≤ (W + V) * (W + V)
sum_long u t x y W V e f =
    whole ((u *ℤ x) +ℤ (t *ℤ y)) (square u + square t) (square x + square y) (square (u +ℤ x) + square (t +ℤ y)) same (inner_le u t x y W V e f) e f
  where
    same : pos (square (u +ℤ x) + square (t +ℤ y)) ≡ (pos (square u + square t) +ℤ pos (square x + square y)) +ℤ (pos 2 *ℤ ((u *ℤ x) +ℤ (t *ℤ y)))
    same = squares (u +ℤ x) (t +ℤ y)
        ∙ ring (u ∷ t ∷ x ∷ y ∷ []) (((var 0 ⊕ var 2) ⊗ (var 0 ⊕ var 2)) ⊕ ((var 1 ⊕ var 3) ⊗ (var 1 ⊕ var 3)))
        ((((var 0 ⊗ var 0) ⊕ (var 1 ⊗ var 1)) ⊕ ((var 2 ⊗ var 2) ⊕ (var 3 ⊗ var 3))) ⊕ (num (pos 2) ⊗ ((var 0 ⊗ var 2) ⊕ (var 1 ⊗ var 3)))) refl
        ∙ ap (λ z. (z +ℤ ((x *ℤ x) +ℤ (y *ℤ y))) +ℤ (pos 2 *ℤ ((u *ℤ x) +ℤ (t *ℤ y)))) (sym (squares u t))
        ∙ ap (λ z. (pos (square u + square t) +ℤ z) +ℤ (pos 2 *ℤ ((u *ℤ x) +ℤ (t *ℤ y)))) (sym (squares x y))

    whole : (P : ℤ) (m n l : ℕ) → pos l ≡ (pos m +ℤ pos n) +ℤ (pos 2 *ℤ P) → P ≤ℤ pos (W * V) → m ≤ W * W → n ≤ V * V → l ≤ (W + V) * (W + V)
    whole P m n l h g i j = let k : l ≤ W * W + V * V + 2 * (W * V) = omega (arith, ints, h, g, i, j) in omega (arith, k)

-- ---- multiples of a vector

times_square : (k : ℕ) (a : ℤ) → square (pos k *ℤ a) ≡ (k * k) * square a
times_square k a =
    pos_injective (square (pos k *ℤ a)) ((k * k) * square a)
    (sym (square_of_size (pos k *ℤ a)) ∙ ring (pos k ∷ a ∷ []) ((var 0 ⊗ var 1) ⊗ (var 0 ⊗ var 1)) ((var 0 ⊗ var 0) ⊗ (var 1 ⊗ var 1)) refl
    ∙ ap (λ z. (pos k *ℤ pos k) *ℤ z) (square_of_size a))

scale_long : (k : ℕ) (a b : ℤ) (W : ℕ) → square a + square b ≤ W * W → square (pos k *ℤ a) + square (pos k *ℤ b) ≤ (k * W) * (k * W)
scale_long k a b W h = plain (square a) (square b) _ _ (times_square k a) (times_square k b) h
  where
    plain : (m n i j : ℕ) → i ≡ (k * k) * m → j ≡ (k * k) * n → m + n ≤ W * W → i + j ≤ (k * W) * (k * W)
    plain m n i j e f g = let l : (k * k) * (m + n) ≤ (k * k) * (W * W) = mul-le-mul_left (k * k) g in omega (arith, l, e, f)

unscale_long : (k : ℕ) (a b : ℤ) (W : ℕ) → 0 < k → square (pos k *ℤ a) + square (pos k *ℤ b) ≤ (k * W) * (k * W) → square a + square b ≤ W * W
unscale_long k a b W s h = plain (square a) (square b) _ _ (times_square k a) (times_square k b) h
  where
    plain : (m n i j : ℕ) → i ≡ (k * k) * m → j ≡ (k * k) * n → i + j ≤ (k * W) * (k * W) → m + n ≤ W * W
    plain m n i j e f g = let l : (m + n) * (k * k) ≤ (W * W) * (k * k) = omega (arith, e, f, g) in le_of_mul-le-mul_right l (positive_times k k s s)

-- ---- two pieces are at least as long as the way from the first point to the last

-- from p to q, times both denominators
abbrev way_x : FractionPt → FractionPt → ℤ
way_x p q = q.x *ℤ pos p.d -ℤ p.x *ℤ pos q.d

abbrev way_y : FractionPt → FractionPt → ℤ
way_y p q = q.y *ℤ pos p.d -ℤ p.y *ℤ pos q.d

-- q.d · (from p to r) is r.d · (from p to q) plus p.d · (from q to r)
way_sum : (px pd qx qd rx rd : ℤ) → (rd *ℤ ((qx *ℤ pd) -ℤ (px *ℤ qd))) +ℤ (pd *ℤ ((rx *ℤ qd) -ℤ (qx *ℤ rd))) ≡ qd *ℤ ((rx *ℤ pd) -ℤ (px *ℤ rd))
way_sum px pd qx qd rx rd =
    ring (px ∷ pd ∷ qx ∷ qd ∷ rx ∷ rd ∷ []) ((var 5 ⊗ ((var 2 ⊗ var 1) ⊖ (var 0 ⊗ var 3))) ⊕ (var 1 ⊗ ((var 4 ⊗ var 3) ⊖ (var 2 ⊗ var 5))))
    (var 3 ⊗ ((var 4 ⊗ var 1) ⊖ (var 0 ⊗ var 5))) refl

pub two_pieces : (w v : ℕ) (p q r : FractionPt) → 1 ≤ q.d → IsAsLong w p q → IsAsLong v q r → IsAsLong (w + v) p r
two_pieces w v p q r s e f =
    unscale_long q.d (way_x p r) (way_y p r) ((w + v) * p.d * r.d) s
    (joined _ _ _ _ _ _ (way_sum p.x (pos p.d) q.x (pos q.d) r.x (pos r.d)) (way_sum p.y (pos p.d) q.y (pos q.d) r.y (pos r.d)) (length_sum p.d q.d r.d)
    (sum_long (pos r.d *ℤ way_x p q) (pos r.d *ℤ way_y p q) (pos p.d *ℤ way_x q r) (pos p.d *ℤ way_y q r) (r.d * (w * p.d * q.d)) (p.d * (v * q.d * r.d))
    (scale_long r.d (way_x p q) (way_y p q) (w * p.d * q.d) e)
    (scale_long p.d (way_x q r) (way_y q r) (v * q.d * r.d) f)))
  where
    length_sum : (d e f : ℕ) → f * (w * d * e) + d * (v * e * f) ≡ e * ((w + v) * d * f)
    length_sum d e f = omega arith

    joined : (a b x y : ℤ) (m n : ℕ) → a ≡ x → b ≡ y → m ≡ n → square a + square b ≤ m * m → square x + square y ≤ n * n
    joined a b x y m n e f g h = subst (λ z. square x + square z ≤ n * n) f (subst (λ z. square z + square b ≤ n * n) e (subst (λ l. square a + square b ≤ l * l) g h))

-- from a point to itself
pub no_way : (p : FractionPt) → IsAsLong 0 p p
no_way p = rw (minus_itself (p.x *ℤ pos p.d), minus_itself (p.y *ℤ pos p.d)) (omega arith)

-- the pieces of a trip
pub trip_long : (a : Entry) (rest : List Entry) (q : FractionPt) → ArePieces a rest q → IsAsLong (trip_length (a ∷ rest)) a.at q
trip_long a [] q h = subst (λ n. IsAsLong n a.at q) (one a.piece) h
  where
    one : (n : ℕ) → n ≡ 0 + n
    one n = omega arith
trip_long a (b ∷ rest) q h =
    subst (λ n. IsAsLong n a.at q) (sym (sum_by-cons (λ (e : Entry). e.piece) a (b ∷ rest)))
    (two_pieces a.piece (trip_length (b ∷ rest)) a.at b.at q h.1 h.0 (trip_long b rest q h.2))

-- ---- gaps

-- a distance that is at least w and at most l
pub within_long : (w l : ℕ) (p q : FractionPt) → 1 ≤ p.d → 1 ≤ q.d → IsWithinDistance w p q → IsAsLong l p q → w ≤ l
within_long w l p q g h e f =
    part w l p.d g (part (w * p.d) (l * p.d) q.d h (at_most_of_squares (w * p.d * q.d) (l * p.d * q.d) (omega (arith, e, f))))
  where
    part : (m n k : ℕ) → 0 < k → m * k ≤ n * k → m ≤ n
    part m n k s i = le_of_mul-le-mul_right i s

-- a way from a point of the one set to a point of the other is at least as long as their gap
pub gap_le : (a b : List Pt) (gap length : ℕ) (p q : FractionPt) → 1 ≤ p.d → 1 ≤ q.d → InHullAt a p → InHullAt b q → IsAsLong length p q → IsGap a b gap → gap ≤ length
gap_le a b gap length p q g h i j f (inl far) = omega (arith, far.1)
gap_le a b gap length p q g h i j f (inr close) = within_long gap length p q g h (close.1.holds p q g h i j) f
