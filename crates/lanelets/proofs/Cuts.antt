-- Sizes of sides, and the coordinates of cuts as the code computes them.
use Rattle.std.proofs.Common.{◌≡◌, ℕ, ◌+◌, ◌-◌, ◌*◌, ◌<◌, ◌≤◌, ◌∙◌, [], ◌∷◌, ap, refl, arith, to_z, of_z, w64, FitsSigned, nat_abs, mul-le-mul}
use Rattle.std.proofs.lemmas.Int.{ints}
use Rattle.std.specs.Int.{w128}
use lib.IntN.{ℤ, pos, ◌+ℤ◌, ◌-ℤ◌, ◌*ℤ◌}
use lib.Signed.{◌≤ℤ◌}
use Rattle.spot_terms.specs.Whole.{Within, quotient_floor}
use Rattle.spot_terms.proofs.QuotientBounds.{floor_between}
use Rattle.spot_terms.proofs.Ring.{ring, var, num, ◌⊕◌, ◌⊖◌, ◌⊗◌}
use Rattle.spot_terms.proofs.Orders.{product_not_negative}
use Rattle.convex_poly.proofs.Wide.{product_within}

-- ---- sides

-- the way between two coordinates, as the code computes it
pub way_small : (x d : ℕ) (a b : ℤ) → x ≡ d → d ≡ nat_abs (to_z w64 (of_z w64 b) -ℤ to_z w64 (of_z w64 a)) → nat_abs a ≤ 10000000000000 → nat_abs b ≤ 10000000000000 → x ≤ 20000000000000
way_small x d a b e f h k = omega (arith, ints, e, f)

pub squares_small : (x y : ℕ) → x ≤ 20000000000000 → y ≤ 20000000000000 → x * x + y * y ≤ 800000000000000000000000000
squares_small x y h k = omega (arith, mul-le-mul h h, mul-le-mul k k)

-- ---- parts of a way

times_between : (z : ℤ) (t n : ℕ) → nat_abs z ≤ 20000000000000 * t → t ≤ n → (((pos 0 -ℤ pos 20000000000000) *ℤ pos n) ≤ℤ z) × (z ≤ℤ (pos 20000000000000 *ℤ pos n))
times_between z t n h k = (omega (arith, ints, h, k), omega (arith, ints, h, k))

-- a part of a way is no longer than the way may be
pub part_small : (w : ℤ) (t n : ℕ) → 0 < n → t ≤ n → nat_abs w ≤ 20000000000000 → nat_abs (quotient_floor (w *ℤ pos t) (pos n)) ≤ 20000000000000
part_small w t n some h k =
    let p : nat_abs (w *ℤ pos t) ≤ 20000000000000 * t = product_within w (pos t) 20000000000000 t k (omega arith) in
    let between = times_between (w *ℤ pos t) t n p h in
    let b : Within (pos 0 -ℤ pos 20000000000000) (pos 20000000000000) (quotient_floor (w *ℤ pos t) (pos n)) = floor_between (w *ℤ pos t) (pos n) (pos 0 -ℤ pos 20000000000000) (pos 20000000000000) (omega (arith, ints, some)) between.0 between.1 in
    let low = b.low in let high = b.high in omega (arith, ints, low, high)

-- ---- as the code computes it

wide_back : (z : ℤ) → nat_abs z ≤ 1000000000000000000000000000000000 → to_z w128 (of_z w128 z) ≡ z
wide_back z h = omega (arith, ints)

way_is : (to from a b : ℤ) → nat_abs a ≤ 10000000000000 → nat_abs b ≤ 10000000000000 → to ≡ to_z w64 (of_z w64 b) → from ≡ to_z w64 (of_z w64 a) → to_z w128 (of_z w128 (to_z w128 (of_z w128 to) -ℤ to_z w128 (of_z w128 from))) ≡ b -ℤ a
way_is to from a b h k e f = omega (arith, ints, e, f)

pub difference_small : (a b : ℤ) → nat_abs a ≤ 10000000000000 → nat_abs b ≤ 10000000000000 → nat_abs (b -ℤ a) ≤ 20000000000000
difference_small a b h k = omega (arith, ints)

product_small : (w : ℤ) (t : ℕ) → nat_abs w ≤ 20000000000000 → t < 4294967296 → nat_abs (w *ℤ pos t) ≤ 1000000000000000000000000000000000
product_small w t h k = let p : nat_abs (w *ℤ pos t) ≤ 20000000000000 * 4294967296 = product_within w (pos t) 20000000000000 4294967296 h (omega arith) in omega arith

-- the part of the way
pub gone_is : (q to from by over a b : ℤ) (t n : ℕ) → nat_abs a ≤ 10000000000000 → nat_abs b ≤ 10000000000000 → t < 4294967296 → n < 4294967296
    → q ≡ quotient_floor (to_z w128 (of_z w128 (to_z w128 (of_z w128 (to_z w128 (of_z w128 to) -ℤ to_z w128 (of_z w128 from))) *ℤ to_z w128 (of_z w128 by)))) (to_z w128 (of_z w128 over))
    → to ≡ to_z w64 (of_z w64 b) → from ≡ to_z w64 (of_z w64 a) → by ≡ pos t → over ≡ pos n → q ≡ quotient_floor ((b -ℤ a) *ℤ pos t) (pos n)
gone_is q to from by over a b t n h k ht hn e eto efrom eby eover =
    let way = way_is to from a b h k eto efrom in
    let times : to_z w128 (of_z w128 by) ≡ pos t = rw eby (wide_back (pos t) (omega arith)) in
    let divisor : to_z w128 (of_z w128 over) ≡ pos n = rw eover (wide_back (pos n) (omega arith)) in
    e ∙ rw (way, times, divisor) (ap (λ (z : ℤ). quotient_floor z (pos n)) (wide_back ((b -ℤ a) *ℤ pos t) (product_small (b -ℤ a) t (difference_small a b h k) ht)))

-- the coordinate
pub sum_fits : (f q a : ℤ) → nat_abs a ≤ 10000000000000 → nat_abs q ≤ 20000000000000 → f ≡ to_z w64 (of_z w64 a) → FitsSigned w128 (to_z w128 (of_z w128 f) +ℤ to_z w128 (of_z w128 q))
sum_fits f q a h k e = omega (arith, ints, e)

pub sum_fits_narrow : (f q a : ℤ) → nat_abs a ≤ 10000000000000 → nat_abs q ≤ 20000000000000 → f ≡ to_z w64 (of_z w64 a) → FitsSigned w64 (to_z w128 (of_z w128 (to_z w128 (of_z w128 f) +ℤ to_z w128 (of_z w128 q))))
sum_fits_narrow f q a h k e = omega (arith, ints, e)

pub sum_is : (f q a : ℤ) → nat_abs a ≤ 10000000000000 → nat_abs q ≤ 20000000000000 → f ≡ to_z w64 (of_z w64 a) → to_z w64 (of_z w64 (to_z w128 (of_z w128 (to_z w128 (of_z w128 f) +ℤ to_z w128 (of_z w128 q))))) ≡ a +ℤ q
sum_is f q a h k e = omega (arith, ints, e)

-- a part of a way is at most as far as the whole of one that is no shorter
part_at_most : (m w t u : ℤ) → pos 0 ≤ℤ m → w ≤ℤ m → pos 0 ≤ℤ t → pos 0 ≤ℤ u → (w *ℤ t) ≤ℤ (m *ℤ (t +ℤ u))
part_at_most m w t u h k ht hu =
    let a : pos 0 ≤ℤ ((m -ℤ w) *ℤ t) = product_not_negative (m -ℤ w) t (omega (arith, ints)) ht in
    let b : pos 0 ≤ℤ (m *ℤ u) = product_not_negative m u h hu in
    let e : m *ℤ (t +ℤ u) ≡ ((w *ℤ t) +ℤ ((m -ℤ w) *ℤ t)) +ℤ (m *ℤ u) = ring (m ∷ w ∷ t ∷ u ∷ []) (var 0 ⊗ (var 2 ⊕ var 3)) (((var 1 ⊗ var 2) ⊕ ((var 0 ⊖ var 1) ⊗ var 2)) ⊕ (var 0 ⊗ var 3)) refl in
    rw e (below (w *ℤ t) ((m -ℤ w) *ℤ t) (m *ℤ u) a b)
  where
    below : (z x y : ℤ) → pos 0 ≤ℤ x → pos 0 ≤ℤ y → z ≤ℤ ((z +ℤ x) +ℤ y)
    below z x y h k = omega (arith, ints)

-- and at least as far
part_at_least : (m w t u : ℤ) → m ≤ℤ pos 0 → m ≤ℤ w → pos 0 ≤ℤ t → pos 0 ≤ℤ u → (m *ℤ (t +ℤ u)) ≤ℤ (w *ℤ t)
part_at_least m w t u h k ht hu =
    let a : pos 0 ≤ℤ ((w -ℤ m) *ℤ t) = product_not_negative (w -ℤ m) t (omega (arith, ints)) ht in
    let b : pos 0 ≤ℤ ((pos 0 -ℤ m) *ℤ u) = product_not_negative (pos 0 -ℤ m) u (omega (arith, ints)) hu in
    let e : w *ℤ t ≡ ((m *ℤ (t +ℤ u)) +ℤ ((w -ℤ m) *ℤ t)) +ℤ ((pos 0 -ℤ m) *ℤ u) = ring (m ∷ w ∷ t ∷ u ∷ []) (var 1 ⊗ var 2) (((var 0 ⊗ (var 2 ⊕ var 3)) ⊕ ((var 1 ⊖ var 0) ⊗ var 2)) ⊕ ((num (pos 0) ⊖ var 0) ⊗ var 3)) refl in
    rw e (below (m *ℤ (t +ℤ u)) ((w -ℤ m) *ℤ t) ((pos 0 -ℤ m) *ℤ u) a b)
  where
    below : (z x y : ℤ) → pos 0 ≤ℤ x → pos 0 ≤ℤ y → z ≤ℤ ((z +ℤ x) +ℤ y)
    below z x y h k = omega (arith, ints)

-- the coordinate of a cut lies between those of the ends, so that it is no greater than they may be
pub cut_small : (s a b : ℤ) (t n : ℕ) → 0 < n → t ≤ n → nat_abs a ≤ 10000000000000 → nat_abs b ≤ 10000000000000 → s ≡ a +ℤ quotient_floor ((b -ℤ a) *ℤ pos t) (pos n) → nat_abs s ≤ 10000000000000
cut_small s a b t n some l h k e =
    let low : ℤ = (pos 0 -ℤ pos 10000000000000) -ℤ a in
    let high : ℤ = pos 10000000000000 -ℤ a in
    let whole : pos t +ℤ pos (n - t) ≡ pos n = omega (arith, ints, l) in
    let most : ((b -ℤ a) *ℤ pos t) ≤ℤ (high *ℤ pos n) = rw whole at (part_at_most high (b -ℤ a) (pos t) (pos (n - t)) (omega (arith, ints, h)) (omega (arith, ints, k)) (omega (arith, ints)) (omega (arith, ints))) in
    let least : (low *ℤ pos n) ≤ℤ ((b -ℤ a) *ℤ pos t) = rw whole at (part_at_least low (b -ℤ a) (pos t) (pos (n - t)) (omega (arith, ints, h)) (omega (arith, ints, k)) (omega (arith, ints)) (omega (arith, ints))) in
    let between : Within low high (quotient_floor ((b -ℤ a) *ℤ pos t) (pos n)) = floor_between ((b -ℤ a) *ℤ pos t) (pos n) low high (omega (arith, ints, some)) least most in
    let from = between.low in let to = between.high in
    omega (arith, ints, from, to, e)
