-- How far k ticks lead along a normal: a bound of each acceleration's part, and of each tick's rounding.
use Rattle.std.proofs.Common.{◌≡◌, ℕ, zero, suc, ◌+◌, ◌*◌, ◌/◌, ◌≤◌, arith, ap, refl, subst, [], ◌∷◌}
use Rattle.std.specs.Prelude.{nat_abs}
use Rattle.std.proofs.lemmas.Int.{ints}
use lib.IntN.{ℤ, pos, negsuc, ◌+ℤ◌, ◌-ℤ◌, ◌*ℤ◌}
use lib.Signed.{◌≤ℤ◌}
use Rattle.spot_terms.proofs.Ring.{ring, var, num, ◌⊕◌, ◌⊖◌, ◌⊗◌}
use Rattle.convex_poly.proofs.Wide.{product_within}
use Rattle.base_sets.specs.Passes.{Passes}

-- the sizes of what the accelerations of k ticks are multiplied by, in 2·c·p + d·v after them
unfoldable pub spread : ℕ → ℤ → ℤ → ℕ
spread zero c d = 0
spread (suc k) c d = nat_abs (c +ℤ d) + spread k c (pos 2 *ℤ c +ℤ d)

-- a product with a number of at most m in size
below_size : (z e : ℤ) (m : ℕ) → nat_abs e ≤ m → (z *ℤ e) ≤ℤ pos (nat_abs z * m)
below_size z e m h = let w : nat_abs (z *ℤ e) ≤ nat_abs z * m = product_within z e (nat_abs z) m (omega arith) h in omega (arith, ints, w)

-- one tick: twice c·p and d·v after it, by those before it, its rounding and its acceleration
tick_is : (c d q w p v : ℤ) → pos 2 *ℤ (c *ℤ p) +ℤ d *ℤ v ≡ (pos 2 *ℤ (c *ℤ q) +ℤ (pos 2 *ℤ c +ℤ d) *ℤ w) +ℤ (c *ℤ (pos 2 *ℤ (p -ℤ q) -ℤ (w +ℤ v)) +ℤ (c +ℤ d) *ℤ (v -ℤ w))
tick_is c d q w p v =
    ring (c ∷ d ∷ q ∷ w ∷ p ∷ v ∷ [])
    ((num (pos 2) ⊗ (var 0 ⊗ var 4)) ⊕ (var 1 ⊗ var 5))
    (((num (pos 2) ⊗ (var 0 ⊗ var 2)) ⊕ (((num (pos 2) ⊗ var 0) ⊕ var 1) ⊗ var 3)) ⊕ ((var 0 ⊗ ((num (pos 2) ⊗ (var 4 ⊖ var 2)) ⊖ (var 3 ⊕ var 5))) ⊕ ((var 0 ⊕ var 1) ⊗ (var 5 ⊖ var 3)))) refl

-- the factor of the first speed
factor_is : (k : ℕ) (c d v : ℤ) → (pos (2 * k) *ℤ c +ℤ (pos 2 *ℤ c +ℤ d)) *ℤ v ≡ (pos (2 * suc k) *ℤ c +ℤ d) *ℤ v
factor_is k c d v =
    let e : pos (2 * k) *ℤ c +ℤ (pos 2 *ℤ c +ℤ d) ≡ pos (2 * suc k) *ℤ c +ℤ d = omega (arith, ints) in
    ap (λ (z : ℤ). z *ℤ v) e

sum_up : (after before first last rounding turn : ℤ) (n s a k m : ℕ) → after ≡ before +ℤ (rounding +ℤ turn) → before ≤ℤ (first +ℤ last +ℤ pos (s * a + n * k)) → rounding ≤ℤ pos (n * 1) → turn ≤ℤ pos (m * a) → after ≤ℤ (first +ℤ last +ℤ pos ((m + s) * a + n * suc k))
sum_up after before first last rounding turn n s a k m e h r t = omega (arith, ints)

-- k ticks
pub grown : (a k : ℕ) (c d p v p' v' : ℤ) → Passes a k p v p' v' → (pos 2 *ℤ (c *ℤ p') +ℤ d *ℤ v') ≤ℤ (pos 2 *ℤ (c *ℤ p) +ℤ (pos (2 * k) *ℤ c +ℤ d) *ℤ v +ℤ pos (spread k c d * a + nat_abs c * k))
unfolding spread
grown a zero c d p v p' v' h = rw (← h.0, ← h.1) (let e : (pos 0 *ℤ c +ℤ d) *ℤ v ≡ d *ℤ v = ap (λ (z : ℤ). z *ℤ v) (omega (arith, ints)) in omega (arith, ints, e))
grown a (suc k) c d p v p' v' (q, w, earlier, tick, turn) =
    sum_up _ _ (pos 2 *ℤ (c *ℤ p)) ((pos (2 * suc k) *ℤ c +ℤ d) *ℤ v) _ _ (nat_abs c) (spread k c (pos 2 *ℤ c +ℤ d)) a k (nat_abs (c +ℤ d)) (tick_is c d q w p' v')
    (subst (λ z. (pos 2 *ℤ (c *ℤ q) +ℤ (pos 2 *ℤ c +ℤ d) *ℤ w) ≤ℤ (pos 2 *ℤ (c *ℤ p) +ℤ z +ℤ pos (spread k c (pos 2 *ℤ c +ℤ d) * a + nat_abs c * k))) (factor_is k c d v) (grown a k c (pos 2 *ℤ c +ℤ d) p v q w earlier))
    (below_size c (pos 2 *ℤ (p' -ℤ q) -ℤ (w +ℤ v')) 1 tick)
    (below_size (c +ℤ d) (v' -ℤ w) a turn)

-- ---- closed forms

-- the sizes of z, z + 2 and so on, k of them
unfoldable pub sizes : ℕ → ℤ → ℕ
sizes zero z = 0
sizes (suc k) z = nat_abs z + sizes k (z +ℤ pos 2)

-- one more at the end
sizes-last : (k : ℕ) (z : ℤ) → sizes (suc k) z ≡ sizes k z + nat_abs (z +ℤ pos (2 * k))
unfolding sizes
sizes-last zero z = omega (arith, ints)
sizes-last (suc k) z =
    let rest : sizes (suc k) (z +ℤ pos 2) ≡ sizes k (z +ℤ pos 2) + nat_abs (z +ℤ pos 2 +ℤ pos (2 * k)) = sizes-last k (z +ℤ pos 2) in
    let same : z +ℤ pos 2 +ℤ pos (2 * k) ≡ z +ℤ pos (2 * suc k) = omega (arith, ints) in
    let size : nat_abs (z +ℤ pos 2 +ℤ pos (2 * k)) ≡ nat_abs (z +ℤ pos (2 * suc k)) = ap nat_abs same in
    omega (arith, rest, size)

-- the odd numbers from 1 on
pub sizes-odd : (k : ℕ) → sizes k (pos 1) ≡ k * k
unfolding sizes
sizes-odd zero = refl
sizes-odd (suc k) = omega (arith, sizes-last k (pos 1), sizes-odd k)

-- the odd numbers up to -1
pub sizes-odd_down : (k : ℕ) → sizes k (pos 1 -ℤ pos (2 * k)) ≡ k * k
unfolding sizes
sizes-odd_down zero = refl
sizes-odd_down (suc k) =
    let same : pos 1 -ℤ pos (2 * suc k) +ℤ pos 2 ≡ pos 1 -ℤ pos (2 * k) = omega (arith, ints) in
    let rest : sizes k (pos 1 -ℤ pos (2 * suc k) +ℤ pos 2) ≡ k * k = rw same (sizes-odd_down k) in
    let first : nat_abs (pos 1 -ℤ pos (2 * suc k)) ≡ 2 * k + 1 = omega (arith, ints) in
    omega (arith, rest, first)

-- from 1 - k to k - 1
pub sizes-middle : (k : ℕ) → sizes k (pos 1 -ℤ pos k) ≡ (k * k) / 2
unfolding sizes
sizes-middle zero = refl
sizes-middle (suc zero) = refl
sizes-middle (suc (suc k)) =
    let same : pos 1 -ℤ pos (suc (suc k)) +ℤ pos 2 ≡ pos 1 -ℤ pos k = omega (arith, ints) in
    let last : sizes (suc k) (pos 1 -ℤ pos k) ≡ sizes k (pos 1 -ℤ pos k) + nat_abs (pos 1 -ℤ pos k +ℤ pos (2 * k)) = sizes-last k (pos 1 -ℤ pos k) in
    let end : nat_abs (pos 1 -ℤ pos k +ℤ pos (2 * k)) ≡ k + 1 = omega (arith, ints) in
    let first : nat_abs (pos 1 -ℤ pos (suc (suc k))) ≡ k + 1 = omega (arith, ints) in
    let rest : sizes (suc k) (pos 1 -ℤ pos (suc (suc k)) +ℤ pos 2) ≡ sizes (suc k) (pos 1 -ℤ pos k) = ap (λ (z : ℤ). sizes (suc k) z) same in
    omega (arith, rest, first, end, last, sizes-middle k)

-- the spreads along the axis of speeds, and of 1, -1, 2 and -2 times a position
pub spread-speed : (k : ℕ) (d : ℤ) → spread k (pos 0) d ≡ k * nat_abs d
unfolding spread
spread-speed zero d = omega arith
spread-speed (suc k) d =
    let same : pos 0 +ℤ d ≡ d = omega (arith, ints) in
    rw (same, spread-speed k d) (omega arith)

pub spread-once : (k : ℕ) (d : ℤ) → spread k (pos 1) d ≡ sizes k (pos 1 +ℤ d)
unfolding spread sizes
spread-once zero d = refl
spread-once (suc k) d =
    let next : pos 1 +ℤ (pos 2 *ℤ pos 1 +ℤ d) ≡ pos 1 +ℤ d +ℤ pos 2 = omega (arith, ints) in
    rw (spread-once k (pos 2 *ℤ pos 1 +ℤ d), next) refl

pub spread-once_back : (k : ℕ) (d : ℤ) → spread k (negsuc 0) d ≡ sizes k (pos 1 -ℤ d)
unfolding spread sizes
spread-once_back zero d = refl
spread-once_back (suc k) d =
    let next : pos 1 -ℤ (pos 2 *ℤ negsuc 0 +ℤ d) ≡ pos 1 -ℤ d +ℤ pos 2 = omega (arith, ints) in
    let size : nat_abs (negsuc 0 +ℤ d) ≡ nat_abs (pos 1 -ℤ d) = omega (arith, ints) in
    rw (spread-once_back k (pos 2 *ℤ negsuc 0 +ℤ d), next, size) refl

-- d is twice e
pub spread-twice : (k : ℕ) (e : ℤ) → spread k (pos 2) (pos 2 *ℤ e) ≡ 2 * sizes k (pos 1 +ℤ e)
unfolding spread sizes
spread-twice zero e = refl
spread-twice (suc k) e =
    let next : pos 2 *ℤ pos 2 +ℤ pos 2 *ℤ e ≡ pos 2 *ℤ (e +ℤ pos 2) = omega (arith, ints) in
    let size : nat_abs (pos 2 +ℤ pos 2 *ℤ e) ≡ 2 * nat_abs (pos 1 +ℤ e) = omega (arith, ints) in
    let same : pos 1 +ℤ (e +ℤ pos 2) ≡ pos 1 +ℤ e +ℤ pos 2 = omega (arith, ints) in
    rw (next, spread-twice k (e +ℤ pos 2), same, size) (omega arith)

pub spread-twice_back : (k : ℕ) (e : ℤ) → spread k (negsuc 1) (pos 2 *ℤ e) ≡ 2 * sizes k (pos 1 -ℤ e)
unfolding spread sizes
spread-twice_back zero e = refl
spread-twice_back (suc k) e =
    let next : pos 2 *ℤ negsuc 1 +ℤ pos 2 *ℤ e ≡ pos 2 *ℤ (e -ℤ pos 2) = omega (arith, ints) in
    let size : nat_abs (negsuc 1 +ℤ pos 2 *ℤ e) ≡ 2 * nat_abs (pos 1 -ℤ e) = omega (arith, ints) in
    let same : pos 1 -ℤ (e -ℤ pos 2) ≡ pos 1 -ℤ e +ℤ pos 2 = omega (arith, ints) in
    rw (next, spread-twice_back k (e -ℤ pos 2), same, size) (omega arith)
