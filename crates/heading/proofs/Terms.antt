-- A term of the series against the exact one.
use Rattle.std.proofs.Common.{◌≡◌, ℕ, zero, suc, ◌+◌, ◌-◌, ◌*◌, ◌/◌, ◌^◌, ◌<◌, ◌≤◌, refl, arith, ap, sym, ◌∙◌, inl, inr, mul-le-mul, mul-le-mul_right}
use Rattle.std.proofs.Math.Nat.{pow-suc, pow-zero, le_of_mul-le-mul_right, mul-div_left}
use Rattle.std.proofs.lemmas.Nat.{pow-add, mul-pow}
use Rattle.std.proofs.lemmas.Bool.{cases_lt}
use Rattle.spot_terms.specs.Directions.{factorial, rough_term, denominator}
use Rattle.spot_terms.proofs.Readings.{ten_pos}
use Rattle.spot_terms.proofs.Mixes.{positive_times}

pub factorial_pos : (n : ℕ) → 0 < factorial n
unfolding factorial
factorial_pos zero = omega arith
factorial_pos (suc n) = let before = factorial_pos n in grind arith

factorial-suc : (n : ℕ) → factorial (suc n) ≡ suc n * factorial n
unfolding factorial
factorial-suc n = refl

-- a lesser factorial divides a greater one
quotient_of : (n j : ℕ) → j ≤ n → (q : ℕ) × (q * factorial j ≡ factorial n)
quotient_of zero j h = let same : j ≡ 0 = omega arith in (1, rw same (omega arith))
quotient_of (suc n) j h = elim (cases_lt n j) [
  | inl above ↦ let same : j ≡ suc n = omega arith in (1, rw same (omega arith))
  | inr within ↦ let (q, e) = quotient_of n j within in (suc n * q, rw factorial-suc (omega (arith, ap (λ (x : ℕ). suc n * x) e)))
]

pub factorial-div : (n j : ℕ) → j ≤ n → factorial n / factorial j * factorial j ≡ factorial n
factorial-div n j h =
    let (q, e) = quotient_of n j h in
    let divided : q * factorial j / factorial j ≡ q = mul-div_left q (factorial_pos j) in
    rw (← e) (ap (λ (x : ℕ). x * factorial j) divided)

-- 10^12 · (2k + 1 + odd) · (2k + 2 + odd)
abbrev pub ratio : ℕ → ℕ → ℕ
ratio odd k = 10 ^ 12 * ((2 * k + 1 + odd) * (2 * k + 2 + odd))

-- 10^(12k) · (2k + odd)!
unfoldable pub scale : ℕ → ℕ → ℕ
scale odd k = 10 ^ (12 * k) * factorial (2 * k + odd)

pub scale-suc : (odd k : ℕ) → scale odd (suc k) ≡ ratio odd k * scale odd k
unfolding scale
scale-suc odd k =
    let power : 10 ^ (12 * suc k) ≡ 10 ^ 12 * 10 ^ (12 * k) = ap (λ (n : ℕ). 10 ^ n) (omega arith) ∙ pow-add 10 12 (12 * k) in
    let next : 2 * suc k + odd ≡ suc (suc (2 * k + odd)) = omega arith in
    let product : factorial (2 * suc k + odd) ≡ suc (suc (2 * k + odd)) * (suc (2 * k + odd) * factorial (2 * k + odd)) = rw (next, factorial-suc (suc (2 * k + odd)), factorial-suc (2 * k + odd)) refl in
    rw (power, product) (regroup (10 ^ (12 * k)) (factorial (2 * k + odd)) k odd)
  where
    regroup : (x y k odd : ℕ) → 10 ^ 12 * x * (suc (suc (2 * k + odd)) * (suc (2 * k + odd) * y)) ≡ ratio odd k * (x * y)
    regroup x y k odd = omega arith

-- how much less a term may be than the exact one
abbrev pub slack : ℕ → ℕ
slack zero = 0
slack (suc zero) = 1
slack (suc (suc zero)) = 6
slack (suc (suc (suc k))) = 11

slack-step : (odd k z : ℕ) → z ≤ 49 * 10 ^ 12 → slack k * z + ratio odd k ≤ slack (suc k) * ratio odd k
slack-step odd zero z h = omega arith
slack-step odd (suc zero) z h = omega arith
slack-step odd (suc (suc zero)) z h = omega arith
slack-step odd (suc (suc (suc k))) z h = omega arith

-- the quotient's two bounds carry the term's two bounds on
term_step : (c c' s s' m z d x : ℕ) → c' * m ≤ c * z → c * z < (c' + 1) * m → s * z + m ≤ s' * m → c * d ≤ x → x ≤ (c + s) * d → (c' * (m * d) ≤ x * z) × (x * z ≤ (c' + s') * (m * d))
term_step c c' s s' m z d x low high more under over =
    let sum : c * z + s * z ≤ (c' + s') * m = omega arith in
    (omega (arith, mul-le-mul_right d low, mul-le-mul_right z under), omega (arith, mul-le-mul_right d sum, mul-le-mul_right z over))

scale-zero : (odd : ℕ) → odd ≤ 1 → scale odd 0 ≡ 1
unfolding scale factorial
scale-zero zero h = refl
scale-zero (suc zero) h = refl
scale-zero (suc (suc n)) h = absurd (omega arith)

pub scale_pos : (odd k : ℕ) → 0 < scale odd k
unfolding scale
scale_pos odd k = positive_times (10 ^ (12 * k)) (factorial (2 * k + odd)) (ten_pos (12 * k)) (factorial_pos (2 * k + odd))

quotient_bounds : (x m : ℕ) → 0 < m → (x / m * m ≤ x) × (x < (x / m + 1) * m)
quotient_bounds x m h = omega arith

term_zero : (first s z : ℕ) → s ≡ 1 → z ^ 0 ≡ 1 → (first * s ≤ first * z ^ 0) × (first * z ^ 0 ≤ (first + 0) * s)
term_zero first s z e p = rw (e, p) (omega arith)

-- the bounds of a term that is computed, over its own scale
pub term_bounds : (first odd z k : ℕ) → odd ≤ 1 → z ≤ 49 * 10 ^ 12 → (rough_term first odd z k * scale odd k ≤ first * z ^ k) × (first * z ^ k ≤ (rough_term first odd z k + slack k) * scale odd k)
unfolding rough_term
term_bounds first odd z zero l h = term_zero first (scale odd 0) z (scale-zero odd l) (pow-zero z)
term_bounds first odd z (suc k) l h =
    let before = term_bounds first odd z k l h in
    let whole = quotient_bounds (rough_term first odd z k * z) (ratio odd k) (omega arith) in
    let power : first * z ^ suc k ≡ first * z ^ k * z = rw pow-suc (omega arith) in
    rw (scale-suc odd k, power) (term_step (rough_term first odd z k) (rough_term first odd z k * z / ratio odd k) (slack k) (slack (suc k)) (ratio odd k) z (scale odd k) (first * z ^ k) whole.0 whole.1 (slack-step odd k z h) before.0 before.1)

-- 10^(6(40 - j)) · 40! / j!
abbrev pub weight : ℕ → ℕ
weight j = 10 ^ (6 * (40 - j)) * (factorial 40 / factorial j)

regroup : (p q r f n d : ℕ) → p * r ≡ n → q * f ≡ d → p * q * (r * f) ≡ n * d
regroup p q r f n d e g = rw (← e, ← g) (omega arith)

pub weight-even : (k : ℕ) → k ≤ 20 → weight (2 * k + 0) * scale 0 k ≡ denominator
unfolding scale denominator
weight-even k h =
    let total : 6 * (40 - (2 * k + 0)) + 12 * k ≡ 240 = omega arith in
    let power : 10 ^ (6 * (40 - (2 * k + 0))) * 10 ^ (12 * k) ≡ 10 ^ 240 = sym (pow-add 10 (6 * (40 - (2 * k + 0))) (12 * k)) ∙ ap (λ (n : ℕ). 10 ^ n) total in
    regroup (10 ^ (6 * (40 - (2 * k + 0)))) (factorial 40 / factorial (2 * k + 0)) (10 ^ (12 * k)) (factorial (2 * k + 0)) (10 ^ 240) (factorial 40) power (factorial-div 40 (2 * k + 0) (omega arith))

pub weight-odd : (k : ℕ) → k ≤ 19 → 10 ^ 6 * (weight (2 * k + 1) * scale 1 k) ≡ denominator
unfolding scale denominator
weight-odd k h =
    let total : 6 * (40 - (2 * k + 1)) + 12 * k ≡ 234 = omega arith in
    let power : 10 ^ (6 * (40 - (2 * k + 1))) * 10 ^ (12 * k) ≡ 10 ^ 234 = sym (pow-add 10 (6 * (40 - (2 * k + 1))) (12 * k)) ∙ ap (λ (n : ℕ). 10 ^ n) total in
    ap (λ (n : ℕ). 10 ^ 6 * n) (regroup (10 ^ (6 * (40 - (2 * k + 1)))) (factorial 40 / factorial (2 * k + 1)) (10 ^ (12 * k)) (factorial (2 * k + 1)) (10 ^ 234) (factorial 40) power (factorial-div 40 (2 * k + 1) (omega arith))) ∙ together (factorial 40)
  where
    together : (d : ℕ) → 10 ^ 6 * (10 ^ 234 * d) ≡ 10 ^ 240 * d
    together d = omega arith

pub power-even : (a k : ℕ) → a ^ (2 * k + 0) ≡ (a * a) ^ k
power-even a k = let twice : 2 * k + 0 ≡ k + k = omega arith in ap (λ (n : ℕ). a ^ n) twice ∙ pow-add a k k ∙ sym (mul-pow a a k)

pub power-odd : (a k : ℕ) → a ^ (2 * k + 1) ≡ (a * a) ^ k * a
power-odd a k =
    let next : 2 * k + 1 ≡ suc (2 * k + 0) = omega arith in
    rw (next, pow-suc a (2 * k + 0), power-even a k) refl

-- a term that is computed against the exact one: t times E is at most u times 10^18, and short of it by less than the slack
pub record IsTermOf (t u slack : ℕ) : Type 0 where
  pub under : t * denominator ≤ 10 ^ 18 * u
  pub over : 10 ^ 18 * u ≤ (t + slack) * denominator

scaled_down : (t u s d e f : ℕ) → 0 < d → t * d ≤ f → f ≤ (t + s) * d → 10 ^ 18 * u * d ≡ f * e → (t * e ≤ 10 ^ 18 * u) × (10 ^ 18 * u ≤ (t + s) * e)
scaled_down t u s d e f p low high same =
    let first : t * e * d ≤ 10 ^ 18 * u * d = omega (arith, mul-le-mul_right e low) in
    let second : 10 ^ 18 * u * d ≤ (t + s) * e * d = omega (arith, mul-le-mul_right e high) in
    (le_of_mul-le-mul_right first p, le_of_mul-le-mul_right second p)

pub cosine_term : (a k : ℕ) → a ≤ 7 * 10 ^ 6 → k ≤ 20 → IsTermOf (rough_term (10 ^ 18) 0 (a * a) k) (a ^ (2 * k + 0) * weight (2 * k + 0)) (slack k)
cosine_term a k h l =
    let small : a * a ≤ 49 * 10 ^ 12 = (let e : a * a ≤ 7 * 10 ^ 6 * (7 * 10 ^ 6) = mul-le-mul h h in omega arith) in
    let bounds = term_bounds (10 ^ 18) 0 (a * a) k (omega arith) small in
    let same = exact (weight (2 * k + 0)) (scale 0 k) ((a * a) ^ k) (a ^ (2 * k + 0)) denominator (weight-even k l) (power-even a k) in
    let parts = scaled_down (rough_term (10 ^ 18) 0 (a * a) k) (a ^ (2 * k + 0) * weight (2 * k + 0)) (slack k) (scale 0 k) denominator (10 ^ 18 * (a * a) ^ k) (scale_pos 0 k) bounds.0 bounds.1 same in
    record { under = parts.0; over = parts.1 }
  where
    exact : (w d z x e : ℕ) → w * d ≡ e → x ≡ z → 10 ^ 18 * (x * w) * d ≡ 10 ^ 18 * z * e
    exact w d z x e p q = rw (← p, q) (omega arith)

pub sine_term : (a k : ℕ) → a ≤ 7 * 10 ^ 6 → k ≤ 19 → IsTermOf (rough_term (a * 10 ^ 12) 1 (a * a) k) (a ^ (2 * k + 1) * weight (2 * k + 1)) (slack k)
sine_term a k h l =
    let small : a * a ≤ 49 * 10 ^ 12 = (let e : a * a ≤ 7 * 10 ^ 6 * (7 * 10 ^ 6) = mul-le-mul h h in omega arith) in
    let bounds = term_bounds (a * 10 ^ 12) 1 (a * a) k (omega arith) small in
    let same = exact (weight (2 * k + 1)) (scale 1 k) ((a * a) ^ k) (a ^ (2 * k + 1)) denominator a (weight-odd k l) (power-odd a k) in
    let parts = scaled_down (rough_term (a * 10 ^ 12) 1 (a * a) k) (a ^ (2 * k + 1) * weight (2 * k + 1)) (slack k) (scale 1 k) denominator (a * 10 ^ 12 * (a * a) ^ k) (scale_pos 1 k) bounds.0 bounds.1 same in
    record { under = parts.0; over = parts.1 }
  where
    exact : (w d z x e a : ℕ) → 10 ^ 6 * (w * d) ≡ e → x ≡ z * a → 10 ^ 18 * (x * w) * d ≡ a * 10 ^ 12 * z * e
    exact w d z x e a p q = rw (← p, q) (omega arith)
