-- A state after k ticks is, along each frame normal, at most the growth past where it came from.
use Rattle.std.proofs.Common.{◌≡◌, ◌∙◌, ℕ, ◌+◌, ◌*◌, ◌/◌, arith, ap, refl, subst}
use Rattle.std.specs.Prelude.{nat_abs}
use Rattle.std.proofs.lemmas.Int.{ints}
use lib.IntN.{ℤ, pos, negsuc, neg_ℤ, ◌+ℤ◌, ◌-ℤ◌, ◌*ℤ◌}
use lib.Signed.{◌≤ℤ◌}
use Rattle.spot_terms.proofs.Products.{products, *ℤ_assoc}
use Rattle.base_sets.specs.Passes.{Passes}
use Rattle.propagate.specs.Growing.{GrowthsBoundSteps}
use Rattle.propagate.proofs.NumberLists.{speed_growth, place_growth, double_growth}
use Rattle.propagate.proofs.Spreads.{spread, grown, spread-speed, spread-once, spread-once_back, spread-twice, spread-twice_back, sizes, sizes-odd, sizes-odd_down, sizes-middle}

-- from (p, v) to (q, w): along n at most the growth g past the way of the step
abbrev pub GrowsBy : ℕ → ℤ → ℤ → ℤ → ℤ → ℤ → ℤ → ℕ → Type 0
GrowsBy k p v q w n1 n2 g = (n1 *ℤ q +ℤ n2 *ℤ w) ≤ℤ (n1 *ℤ p +ℤ (pos k *ℤ n1 +ℤ n2) *ℤ v +ℤ pos g)

-- the eight of them
pub record Grows (a k : ℕ) (p v q w : ℤ) : Type 0 where
  pub g0 : GrowsBy k p v q w (pos 0) (pos 1) (speed_growth a k)
  pub g1 : GrowsBy k p v q w (pos 1) (pos 0) (place_growth a k)
  pub g2 : GrowsBy k p v q w (pos 2) (neg_ℤ (pos k)) (double_growth a k)
  pub g3 : GrowsBy k p v q w (pos 1) (neg_ℤ (pos k)) (place_growth a k)
  pub g4 : GrowsBy k p v q w (pos 0) (negsuc 0) (speed_growth a k)
  pub g5 : GrowsBy k p v q w (negsuc 0) (pos 0) (place_growth a k)
  pub g6 : GrowsBy k p v q w (negsuc 1) (pos k) (double_growth a k)
  pub g7 : GrowsBy k p v q w (negsuc 0) (pos k) (place_growth a k)

-- half of a whole number, where twice a whole number is at most it
half_of : (x : ℤ) (y : ℤ) (m : ℕ) → (pos 2 *ℤ x) ≤ℤ (pos 2 *ℤ y +ℤ pos m) → x ≤ℤ (y +ℤ pos (m / 2))
half_of x y m h = omega (arith, ints)

half_of_double : (x : ℤ) (y : ℤ) (m : ℕ) → (pos 2 *ℤ x) ≤ℤ (pos 2 *ℤ y +ℤ pos (2 * m)) → x ≤ℤ (y +ℤ pos m)
half_of_double x y m h = omega (arith, ints)

-- from twice c·p and d·v to c·p and e·v, where d is twice e
halve : (k m : ℕ) (c d e p v q w : ℤ) → d ≡ pos 2 *ℤ e → (pos 2 *ℤ (c *ℤ q) +ℤ d *ℤ w) ≤ℤ (pos 2 *ℤ (c *ℤ p) +ℤ (pos (2 * k) *ℤ c +ℤ d) *ℤ v +ℤ pos m) → (pos 2 *ℤ (c *ℤ q +ℤ e *ℤ w)) ≤ℤ (pos 2 *ℤ (c *ℤ p +ℤ (pos k *ℤ c +ℤ e) *ℤ v) +ℤ pos m)
halve k m c d e p v q w s h =
    let left : pos 2 *ℤ (c *ℤ q +ℤ e *ℤ w) ≡ pos 2 *ℤ (c *ℤ q) +ℤ d *ℤ w = rw s (omega (arith, ints, products, *ℤ_assoc (pos 2) e w)) in
    let factor : pos (2 * k) *ℤ c +ℤ d ≡ pos 2 *ℤ (pos k *ℤ c +ℤ e) = rw s (omega (arith, ints, products)) in
    let right : (pos (2 * k) *ℤ c +ℤ d) *ℤ v ≡ pos 2 *ℤ ((pos k *ℤ c +ℤ e) *ℤ v) = ap (λ (z : ℤ). z *ℤ v) factor ∙ *ℤ_assoc (pos 2) (pos k *ℤ c +ℤ e) v in
    omega (arith, ints, left, right, h)

-- twice the way along (c, e), and the growth m
along : (a k m : ℕ) (c e p v q w : ℤ) → Passes a k p v q w → spread k c (pos 2 *ℤ e) * a + nat_abs c * k ≡ m → (pos 2 *ℤ (c *ℤ q +ℤ e *ℤ w)) ≤ℤ (pos 2 *ℤ (c *ℤ p +ℤ (pos k *ℤ c +ℤ e) *ℤ v) +ℤ pos m)
along a k m c e p v q w h s =
    halve k m c (pos 2 *ℤ e) e p v q w refl
    (subst (λ n. (pos 2 *ℤ (c *ℤ q) +ℤ (pos 2 *ℤ e) *ℤ w) ≤ℤ (pos 2 *ℤ (c *ℤ p) +ℤ (pos (2 * k) *ℤ c +ℤ pos 2 *ℤ e) *ℤ v +ℤ pos n)) s (grown a k c (pos 2 *ℤ e) p v q w h))

-- the greatest ways along the axes of speeds, of places, and both slanted ones
by_speed : (a k : ℕ) (e p v q w : ℤ) → nat_abs e ≡ 1 → Passes a k p v q w → GrowsBy k p v q w (pos 0) e (speed_growth a k)
by_speed a k e p v q w one h =
    let size : nat_abs (pos 2 *ℤ e) ≡ 2 * nat_abs e = omega (arith, ints) in
    half_of_double _ _ (speed_growth a k) (along a k (2 * speed_growth a k) (pos 0) e p v q w h (let s = spread-speed k (pos 2 *ℤ e) in rw (s, size, one) (omega arith)))

by_place : (a k : ℕ) (c e p v q w : ℤ) → nat_abs c ≡ 1 → spread k c (pos 2 *ℤ e) ≡ k * k → Passes a k p v q w → GrowsBy k p v q w c e (place_growth a k)
by_place a k c e p v q w one s h = half_of _ _ (k * k * a + k) (along a k (k * k * a + k) c e p v q w h (rw (s, one) (omega arith)))

by_double : (a k : ℕ) (c e p v q w : ℤ) → nat_abs c ≡ 2 → spread k c (pos 2 *ℤ e) ≡ 2 * ((k * k) / 2) → Passes a k p v q w → GrowsBy k p v q w c e (double_growth a k)
by_double a k c e p v q w two s h = half_of_double _ _ (double_growth a k) (along a k (2 * double_growth a k) c e p v q w h (rw (s, two) (omega arith)))

pub grows : (a k : ℕ) (p v q w : ℤ) → Passes a k p v q w → Grows a k p v q w
grows a k p v q w h = record {
  g0 = by_speed a k (pos 1) p v q w refl h;
  g1 = by_place a k (pos 1) (pos 0) p v q w refl (spread-once k (pos 0) ∙ sizes-odd k) h;
  g2 = by_double a k (pos 2) (neg_ℤ (pos k)) p v q w refl (spread-twice k (neg_ℤ (pos k)) ∙ ap (λ (z : ℤ). 2 * sizes k z) middle ∙ ap (λ (n : ℕ). 2 * n) (sizes-middle k)) h;
  g3 = by_place a k (pos 1) (neg_ℤ (pos k)) p v q w refl (spread-once k (pos 2 *ℤ neg_ℤ (pos k)) ∙ ap (λ (z : ℤ). sizes k z) down ∙ sizes-odd_down k) h;
  g4 = by_speed a k (negsuc 0) p v q w refl h;
  g5 = by_place a k (negsuc 0) (pos 0) p v q w refl (spread-once_back k (pos 0) ∙ sizes-odd k) h;
  g6 = by_double a k (negsuc 1) (pos k) p v q w refl (spread-twice_back k (pos k) ∙ ap (λ (n : ℕ). 2 * n) (sizes-middle k)) h;
  g7 = by_place a k (negsuc 0) (pos k) p v q w refl (spread-once_back k (pos 2 *ℤ pos k) ∙ ap (λ (z : ℤ). sizes k z) up ∙ sizes-odd_down k) h;
}
  where
    middle : pos 1 +ℤ neg_ℤ (pos k) ≡ pos 1 -ℤ pos k
    middle = omega (arith, ints)

    down : pos 1 +ℤ pos 2 *ℤ neg_ℤ (pos k) ≡ pos 1 -ℤ pos (2 * k)
    down = omega (arith, ints)

    up : pos 1 -ℤ pos 2 *ℤ pos k ≡ pos 1 -ℤ pos (2 * k)
    up = omega (arith, ints)

pub growths_bound : GrowthsBoundSteps
growths_bound a k p v q w h = let g = grows a k p v q w h in (g.g0, (g.g1, (g.g2, (g.g3, (g.g4, (g.g5, (g.g6, (g.g7, tt))))))))
