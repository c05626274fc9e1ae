-- The polynomials are at most twice their denominator in size, and so are the computed sums, nearly.
use Rattle.std.proofs.Common.{◌≡◌, ℕ, zero, suc, ◌+◌, ◌*◌, ◌%◌, ◌^◌, ◌<◌, ◌≤◌, ◌==◌, if◌then◌else◌, Bool, true, false, refl, arith, ap, sym, ◌∙◌, ℤ, pos, neg_ℤ, ◌+ℤ◌, ◌-ℤ◌, ◌*ℤ◌, ◌≤ℤ◌, nat_abs, mul-le-mul, mul-le-mul_right, le_of_mul-le-mul_right, le_trans, ◌/◌, add-one}
use Rattle.std.proofs.lemmas.Bool.Decides.{nat_tests}
use Rattle.std.proofs.Math.Nat.{pow-zero, pow-suc}
use Rattle.std.proofs.lemmas.Int.{ints, unsigned_abs-mul}
use Rattle.spot_terms.proofs.Products.{products, *ℤ_assoc, times_swap, scaled_order, at_most_root, opposite_at_most_root, square_not_negative}
use Rattle.spot_terms.specs.Directions.{alternating, denominator, polynomial, exact_term, rough_sum, rough_term}
use Rattle.heading.proofs.Terms.{weight, power-even, power-odd, ratio}
use Rattle.heading.proofs.Sums.{IsSumOf, exact_term-even, exact_term-odd, cosine_sum, sine_sum}
use Rattle.heading.proofs.Polynomials.{eval, coefficients, squares-within, squares-parts, next_power}
use Rattle.heading.proofs.Covers.{denominator_pos}
use Rattle.spot_terms.proofs.Ring.{spread}

abbrev pub coefficient : ℕ → ℕ → ℤ
coefficient odd k = alternating k (pos (weight (2 * k + odd)))

-- one more coefficient at the end
coefficients-suc : (odd i n z : ℕ) → eval (coefficients odd i (suc n)) (pos z) ≡ eval (coefficients odd i n) (pos z) +ℤ pos (z ^ n) *ℤ coefficient odd (i + n)
coefficients-suc odd i zero z = let e : i + 0 ≡ i = omega arith in rw (e, pow-zero) (omega (arith, ints))
coefficients-suc odd i (suc n) z =
    let shift : suc i + n ≡ i + suc n = omega arith in
    ap (λ (e : ℤ). coefficient odd i +ℤ pos z *ℤ e) (coefficients-suc odd (suc i) n z)
    ∙ next_power (coefficient odd i) (eval (coefficients odd (suc i) n) (pos z)) (coefficient odd (suc i + n)) z (z ^ n)
    ∙ rw (pow-suc z n, shift) refl

coefficients-last : (odd n z : ℕ) → eval (coefficients odd 0 (suc n)) (pos z) ≡ eval (coefficients odd 0 n) (pos z) +ℤ pos (z ^ n) *ℤ coefficient odd n
coefficients-last odd n z = let e : 0 + n ≡ n = omega arith in coefficients-suc odd 0 n z ∙ ap (λ (m : ℕ). eval (coefficients odd 0 n) (pos z) +ℤ pos (z ^ n) *ℤ coefficient odd m) e

alternating-scaled : (k x w : ℕ) → alternating k (pos (x * w)) ≡ pos x *ℤ alternating k (pos w)
unfolding alternating
alternating-scaled k x w = by ((k % 2) == 0)
  where
    by : (b : Bool) → (if b then pos (x * w) else neg_ℤ (pos (x * w))) ≡ pos x *ℤ (if b then pos w else neg_ℤ (pos w))
    by true = omega (arith, ints)
    by false = omega (arith, ints, products)

alternating-zero : (x : ℤ) → x ≡ alternating 0 x
unfolding alternating
alternating-zero x = refl

term-even : (t : ℤ) (k : ℕ) → alternating k (exact_term t (2 * k + 0)) ≡ pos ((nat_abs t * nat_abs t) ^ k) *ℤ coefficient 0 k
term-even t k = rw (exact_term-even t k, power-even (nat_abs t) k) (alternating-scaled k ((nat_abs t * nat_abs t) ^ k) (weight (2 * k + 0)))

term-odd : (a k : ℕ) → alternating k (exact_term (pos a) (2 * k + 1)) ≡ pos a *ℤ (pos ((a * a) ^ k) *ℤ coefficient 1 k)
term-odd a k = rw (exact_term-odd a k, power-odd a k, alternating-scaled k ((a * a) ^ k * a) (weight (2 * k + 1))) (regroup a ((a * a) ^ k) (coefficient 1 k))
  where
    regroup : (a y : ℕ) (c : ℤ) → pos (y * a) *ℤ c ≡ pos a *ℤ (pos y *ℤ c)
    regroup a y c = omega (arith, ints, *ℤ_assoc (pos a) (pos y) c)

pub polynomial-eval_even : (t : ℤ) (k : ℕ) → polynomial t 0 k ≡ eval (coefficients 0 0 (suc k)) (pos (nat_abs t * nat_abs t))
unfolding polynomial
polynomial-eval_even t zero = alternating-zero (exact_term t 0) ∙ term-even t 0 ∙ no_sum _ ∙ sym (coefficients-last 0 0 (nat_abs t * nat_abs t))
  where
    no_sum : (x : ℤ) → x ≡ pos 0 +ℤ x
    no_sum x = omega (arith, ints)
polynomial-eval_even t (suc k) =
    ap (λ (x : ℤ). x +ℤ alternating (suc k) (exact_term t (2 * suc k + 0))) (polynomial-eval_even t k)
    ∙ ap (λ (x : ℤ). eval (coefficients 0 0 (suc k)) (pos (nat_abs t * nat_abs t)) +ℤ x) (term-even t (suc k))
    ∙ sym (coefficients-last 0 (suc k) (nat_abs t * nat_abs t))

pub polynomial-eval_odd : (a k : ℕ) → polynomial (pos a) 1 k ≡ pos a *ℤ eval (coefficients 1 0 (suc k)) (pos (a * a))
unfolding polynomial
polynomial-eval_odd a zero = alternating-zero (exact_term (pos a) 1) ∙ term-odd a 0 ∙ ap (λ (x : ℤ). pos a *ℤ x) (no_sum _ ∙ sym (coefficients-last 1 0 (a * a)))
  where
    no_sum : (x : ℤ) → x ≡ pos 0 +ℤ x
    no_sum x = omega (arith, ints)
polynomial-eval_odd a (suc k) =
    ap (λ (x : ℤ). x +ℤ alternating (suc k) (exact_term (pos a) (2 * suc k + 1))) (polynomial-eval_odd a k)
    ∙ ap (λ (x : ℤ). pos a *ℤ eval (coefficients 1 0 (suc k)) (pos (a * a)) +ℤ x) (term-odd a (suc k))
    ∙ sym (spread (pos a) (eval (coefficients 1 0 (suc k)) (pos (a * a))) (pos ((a * a) ^ suc k) *ℤ coefficient 1 (suc k)))
    ∙ ap (λ (x : ℤ). pos a *ℤ x) (sym (coefficients-last 1 (suc k) (a * a)))

-- a number whose square is at most 2e² is at most 2e in size
root_of_twice : (x : ℤ) (e : ℕ) → (x *ℤ x) ≤ℤ pos (e * e + e * e) → nat_abs x ≤ 2 * e
root_of_twice x e h =
    let high = at_most_root x (e * e + e * e) (2 * e) h (omega arith) in
    let low = opposite_at_most_root x (e * e + e * e) (2 * e) h (omega arith) in
    omega (arith, ints)

pub cosine_within : (t : ℤ) → nat_abs t ≤ 7 * 10 ^ 6 → nat_abs (polynomial t 0 20) ≤ 2 * denominator
cosine_within t h =
    let z = nat_abs t * nat_abs t in
    let small : nat_abs t * nat_abs t ≤ 49 * 10 ^ 12 = (let e : nat_abs t * nat_abs t ≤ 7 * 10 ^ 6 * (7 * 10 ^ 6) = mul-le-mul h h in omega arith) in
    let bound = rw squares-parts at (squares-within z small) in
    rw (polynomial-eval_even t 20) (root_of_twice _ denominator (first _ _ z _ bound))
  where
    first : (c s : ℤ) (z d : ℕ) → (c *ℤ c +ℤ pos z *ℤ (s *ℤ s)) ≤ℤ pos d → (c *ℤ c) ≤ℤ pos d
    first c s z d h = omega (arith, ints, scaled_order z (pos 0) (s *ℤ s) (square_not_negative s))

pub sine_within : (a : ℕ) → a ≤ 7 * 10 ^ 6 → nat_abs (polynomial (pos a) 1 19) ≤ 2 * denominator
sine_within a h =
    let small : a * a ≤ 49 * 10 ^ 12 = (let e : a * a ≤ 7 * 10 ^ 6 * (7 * 10 ^ 6) = mul-le-mul h h in omega arith) in
    let bound = rw squares-parts at (squares-within (a * a) small) in
    rw (polynomial-eval_odd a 19) (root_of_twice _ denominator (second _ _ a _ bound))
  where
    second : (c s : ℤ) (a d : ℕ) → (c *ℤ c +ℤ pos (a * a) *ℤ (s *ℤ s)) ≤ℤ pos d → ((pos a *ℤ s) *ℤ (pos a *ℤ s)) ≤ℤ pos d
    second c s a d h =
        let square : (pos a *ℤ s) *ℤ (pos a *ℤ s) ≡ pos (a * a) *ℤ (s *ℤ s) = *ℤ_assoc (pos a) s (pos a *ℤ s) ∙ ap (λ (x : ℤ). pos a *ℤ x) (times_swap s (pos a) s) ∙ sym (*ℤ_assoc (pos a) (pos a) (s *ℤ s)) in
        rw square (omega (arith, ints, square_not_negative c))

-- and so the computed sum is at most 2 · 10^18 and the slack in size
pub sum_within : (c p : ℤ) → IsSumOf c p 231 → nat_abs p ≤ 2 * denominator → nat_abs c ≤ 2 * 10 ^ 18 + 231
sum_within c p h g =
    let size = unsigned_abs-mul c (pos denominator) in
    let scaled : nat_abs c * denominator ≤ (2 * 10 ^ 18 + 231) * denominator = rw (← size) (omega (arith, ints, h.under, h.over)) in
    le_of_mul-le-mul_right scaled denominator_pos

-- ---- sizes on the way
abbrev pub cap : ℕ → ℕ
cap zero = 7 * 10 ^ 18
cap (suc zero) = 175 * 10 ^ 18
cap (suc (suc zero)) = 875 * 10 ^ 18
cap (suc (suc (suc k))) = 1750 * 10 ^ 18

cap_step : (odd k z : ℕ) → z ≤ 49 * 10 ^ 12 → cap k * z ≤ cap (suc k) * ratio odd k
cap_step odd zero z h = omega arith
cap_step odd (suc zero) z h = omega arith
cap_step odd (suc (suc zero)) z h = omega arith
cap_step odd (suc (suc (suc k))) z h = omega arith

cap_le : (k : ℕ) → cap k ≤ 1750 * 10 ^ 18
cap_le zero = omega arith
cap_le (suc zero) = omega arith
cap_le (suc (suc zero)) = omega arith
cap_le (suc (suc (suc k))) = omega arith

quotient_le : (x m b : ℕ) → 0 < m → x ≤ b * m → x / m ≤ b
quotient_le x m b p h = let low : x / m * m ≤ x = omega arith in let both : x / m * m ≤ b * m = le_trans low h in le_of_mul-le-mul_right both p

term_below_cap : (first odd z k : ℕ) → first ≤ 7 * 10 ^ 18 → z ≤ 49 * 10 ^ 12 → rough_term first odd z k ≤ cap k
unfolding rough_term
term_below_cap first odd z zero f h = f
term_below_cap first odd z (suc k) f h =
    let before = mul-le-mul_right z (term_below_cap first odd z k f h) in
    quotient_le (rough_term first odd z k * z) (ratio odd k) (cap (suc k)) (omega arith) (le_trans before (cap_step odd k z h))

pub term_within : (first odd z k : ℕ) → first ≤ 7 * 10 ^ 18 → z ≤ 49 * 10 ^ 12 → rough_term first odd z k ≤ 1750 * 10 ^ 18
term_within first odd z k f h = le_trans (term_below_cap first odd z k f h) (cap_le k)

pub series_within : (first odd z k : ℕ) → first ≤ 7 * 10 ^ 18 → z ≤ 49 * 10 ^ 12 → nat_abs (rough_sum first odd z k) ≤ (k + 1) * (1750 * 10 ^ 18)
unfolding rough_sum alternating
series_within first odd z zero f h = omega arith
series_within first odd z (suc k) f h = more (rough_sum first odd z k) (rough_term first odd z (suc k)) _ ((suc k % 2) == 0) (series_within first odd z k f h) (term_within first odd z (suc k) f h)
  where
    more : (x : ℤ) (t b : ℕ) (e : Bool) → nat_abs x ≤ (b + 1) * (1750 * 10 ^ 18) → t ≤ 1750 * 10 ^ 18 → nat_abs (x +ℤ (if e then pos t else neg_ℤ (pos t))) ≤ (suc b + 1) * (1750 * 10 ^ 18)
    more x t b true h g = omega (arith, ints)
    more x t b false h g = omega (arith, ints)

-- ---- one turn of the loop
pub next_term : (first odd z k t : ℕ) → t ≡ rough_term first odd z k → t * z / (10 ^ 12 * ((2 * k + 1 + odd) * (2 * k + 1 + odd + 1))) ≡ rough_term first odd z (k + 1)
unfolding rough_term
next_term first odd z k t e = let place : 2 * k + 1 + odd + 1 ≡ 2 * k + 2 + odd = omega arith in let last : k + 1 ≡ suc k = omega arith in rw (e, place, last) refl

pub next_sum_even : (first odd z k : ℕ) → k % 2 ≡ 0 → rough_sum first odd z (k + 1) ≡ rough_sum first odd z k -ℤ pos (rough_term first odd z (k + 1))
unfolding rough_sum alternating
next_sum_even first odd z k h = let next : ((suc k % 2) == 0) ≡ false = grind (arith, nat_tests) in rw (add-one, next) refl

pub next_sum_odd : (first odd z k : ℕ) → ¬ (k % 2 ≡ 0) → rough_sum first odd z (k + 1) ≡ rough_sum first odd z k +ℤ pos (rough_term first odd z (k + 1))
unfolding rough_sum alternating
next_sum_odd first odd z k h = let next : ((suc k % 2) == 0) ≡ true = grind (arith, nat_tests) in rw (add-one, next) refl

pub sum_zero : (first odd z : ℕ) → rough_sum first odd z 0 ≡ pos first
unfolding rough_sum
sum_zero first odd z = refl

pub term_zero : (first odd z : ℕ) → rough_term first odd z 0 ≡ first
unfolding rough_term
term_zero first odd z = refl

pub sum_small : (first odd z k : ℕ) → first ≤ 7 * 10 ^ 18 → z ≤ 49 * 10 ^ 12 → k ≤ 20 → nat_abs (rough_sum first odd z k) ≤ 36_750 * 10 ^ 18
sum_small first odd z k f h l = let within = series_within first odd z k f h in omega arith

pub product_small : (t z : ℕ) → t ≤ 1750 * 10 ^ 18 → z ≤ 49 * 10 ^ 12 → t * z ≤ 85_750 * 10 ^ 30
product_small t z p q = let product : t * z ≤ 1750 * 10 ^ 18 * (49 * 10 ^ 12) = mul-le-mul p q in omega arith

pub wider : (c p : ℤ) (s s' : ℕ) → s ≤ s' → IsSumOf c p s → IsSumOf c p s'
wider c p s s' h g = let more = mul-le-mul_right denominator h in record { under = omega (arith, ints, g.under); over = omega (arith, ints, g.over) }

pub cosine_sum_within : (t : ℤ) → nat_abs t ≤ 7 * 10 ^ 6 → nat_abs (rough_sum (10 ^ 18) 0 (nat_abs t * nat_abs t) 20) ≤ 2 * 10 ^ 18 + 231
cosine_sum_within t h = sum_within _ _ (cosine_sum t 20 h (omega arith)) (cosine_within t h)

pub sine_sum_within : (a : ℕ) → a ≤ 7 * 10 ^ 6 → nat_abs (rough_sum (a * 10 ^ 12) 1 (a * a) 19) ≤ 2 * 10 ^ 18 + 231
sine_sum_within a h = sum_within _ _ (wider _ _ (11 * 20) 231 (omega arith) (sine_sum a 19 h (omega arith))) (sine_within a h)
