-- The alternating sums against the exact polynomials.
use Rattle.std.proofs.Common.{◌≡◌, ℕ, zero, suc, ◌+◌, ◌*◌, ◌%◌, ◌^◌, ◌≤◌, ◌==◌, if◌then◌else◌, Bool, true, false, refl, arith, mul-le-mul_right, ℤ, pos, negsuc, neg_ℤ, ◌+ℤ◌, ◌*ℤ◌, ◌≤ℤ◌, nat_abs}
use Rattle.std.proofs.lemmas.Int.{ints}
use Rattle.std.proofs.lemmas.Bool.Decides.{nat_tests}
use Rattle.spot_terms.proofs.Products.{products}
use Rattle.spot_terms.specs.Directions.{alternating, rough_term, rough_sum, denominator, exact_term, polynomial}
use Rattle.heading.proofs.Terms.{IsTermOf, weight, slack, cosine_term, sine_term}
use Rattle.spot_terms.proofs.Readings.{times_neg}

-- 10^18 · p and c · E differ by at most slack · E
pub record IsSumOf (c p : ℤ) (slack : ℕ) : Type 0 where
  pub under : (c *ℤ pos denominator) ≤ℤ (pos (10 ^ 18) *ℤ p +ℤ pos (slack * denominator))
  pub over : (pos (10 ^ 18) *ℤ p) ≤ℤ (c *ℤ pos denominator +ℤ pos (slack * denominator))

slack_le : (k : ℕ) → slack k ≤ 11
slack_le zero = omega arith
slack_le (suc zero) = omega arith
slack_le (suc (suc zero)) = omega arith
slack_le (suc (suc (suc k))) = omega arith

-- the same of one term
term_apart : (t u : ℕ) (k : ℕ) → IsTermOf t u (slack k) → IsSumOf (pos t) (pos u) 11
term_apart t u k h =
    let more : slack k * denominator ≤ 11 * denominator = mul-le-mul_right denominator (slack_le k) in
    let low = h.under in
    let high = h.over in
    record { under = omega (arith, ints); over = omega (arith, ints) }

sum_step : (c p t u : ℤ) (s : ℕ) (b : Bool) → IsSumOf c p s → IsSumOf t u 11 → IsSumOf (c +ℤ (if b then t else neg_ℤ t)) (p +ℤ (if b then u else neg_ℤ u)) (s + 11)
sum_step c p t u s true h g = record { under = omega (arith, ints, products, h.under, g.under); over = omega (arith, ints, products, h.over, g.over) }
sum_step c p t u s false h g = record { under = omega (arith, ints, products, h.under, g.over); over = omega (arith, ints, products, h.over, g.under) }

-- ---- the exact terms by their sizes
even_place : (k : ℕ) → ((2 * k + 0) % 2 == 0) ≡ true
even_place k = grind (arith, nat_tests)

odd_place : (k : ℕ) → ((2 * k + 1) % 2 == 0) ≡ false
odd_place k = grind (arith, nat_tests)

pub exact_term-even : (t : ℤ) (k : ℕ) → exact_term t (2 * k + 0) ≡ pos (nat_abs t ^ (2 * k + 0) * weight (2 * k + 0))
unfolding exact_term
exact_term-even (pos a) k = refl
exact_term-even (negsuc a) k = rw (even_place k) refl

pub exact_term-odd : (a k : ℕ) → exact_term (pos a) (2 * k + 1) ≡ pos (a ^ (2 * k + 1) * weight (2 * k + 1))
unfolding exact_term
exact_term-odd a k = refl

pub exact_term-negative : (a k : ℕ) → exact_term (negsuc a) (2 * k + 1) ≡ neg_ℤ (exact_term (pos (suc a)) (2 * k + 1))
unfolding exact_term
exact_term-negative a k = rw (odd_place k) (times_neg (suc a ^ (2 * k + 1)) (weight (2 * k + 1)))

pub cosine_sum : (t : ℤ) (k : ℕ) → nat_abs t ≤ 7 * 10 ^ 6 → k ≤ 20 → IsSumOf (rough_sum (10 ^ 18) 0 (nat_abs t * nat_abs t) k) (polynomial t 0 k) (11 * (k + 1))
unfolding rough_sum rough_term polynomial alternating
cosine_sum t zero h l = rw (exact_term-even t 0) (term_apart _ _ 0 (cosine_term (nat_abs t) 0 h l))
cosine_sum t (suc k) h l =
    let before = cosine_sum t k h (omega arith) in
    let term = term_apart _ _ (suc k) (cosine_term (nat_abs t) (suc k) h l) in
    let next : 11 * (suc k + 1) ≡ 11 * (k + 1) + 11 = omega arith in
    rw (next, exact_term-even t (suc k)) (sum_step _ _ _ _ _ ((suc k % 2) == 0) before term)

pub sine_sum : (a k : ℕ) → a ≤ 7 * 10 ^ 6 → k ≤ 19 → IsSumOf (rough_sum (a * 10 ^ 12) 1 (a * a) k) (polynomial (pos a) 1 k) (11 * (k + 1))
unfolding rough_sum rough_term polynomial alternating
sine_sum a zero h l = rw (exact_term-odd a 0) (term_apart _ _ 0 (sine_term a 0 h l))
sine_sum a (suc k) h l =
    let before = sine_sum a k h (omega arith) in
    let term = term_apart _ _ (suc k) (sine_term a (suc k) h l) in
    let next : 11 * (suc k + 1) ≡ 11 * (k + 1) + 11 = omega arith in
    rw (next, exact_term-odd a (suc k)) (sum_step _ _ _ _ _ ((suc k % 2) == 0) before term)

neg_sum : (x y : ℤ) (b : Bool) → neg_ℤ x +ℤ (if b then neg_ℤ y else neg_ℤ (neg_ℤ y)) ≡ neg_ℤ (x +ℤ (if b then y else neg_ℤ y))
neg_sum x y true = omega (arith, ints)
neg_sum x y false = omega (arith, ints)

pub polynomial-negative : (a k : ℕ) → polynomial (negsuc a) 1 k ≡ neg_ℤ (polynomial (pos (suc a)) 1 k)
unfolding polynomial alternating
polynomial-negative a zero = exact_term-negative a 0
polynomial-negative a (suc k) = rw (polynomial-negative a k, exact_term-negative a (suc k)) (neg_sum _ _ ((suc k % 2) == 0))
