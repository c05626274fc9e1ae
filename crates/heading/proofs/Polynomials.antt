-- Polynomials as lists of coefficients, the constant one first.
use Rattle.std.proofs.Common.{◌≡◌, ℕ, zero, suc, ◌+◌, ◌*◌, ◌^◌, ◌≤◌, nat_le, true, refl, arith, ap, ◌∙◌, ℤ, pos, ◌+ℤ◌, ◌*ℤ◌, ◌≤ℤ◌, nat_abs, List, [], ◌∷◌, take, drop, replicate, mul-le-mul, le_trans}
use Rattle.std.proofs.Math.Nat.{pow-zero, pow-suc, pow-le-pow_left}
use Rattle.std.proofs.lemmas.Int.{ints, unsigned_abs-mul}
use Rattle.std.proofs.lemmas.Bool.{leb-true}
use Rattle.spot_terms.proofs.Products.{products, *ℤ_assoc, times_swap}
use Rattle.spot_terms.specs.Directions.{factorial, alternating, denominator}
use Rattle.heading.proofs.Terms.{weight}

abbrev pub eval : List ℤ → ℤ → ℤ
eval [] z = pos 0
eval (a ∷ xs) z = a +ℤ z *ℤ eval xs z

abbrev pub add : List ℤ → List ℤ → List ℤ
add [] bs = bs
add (a ∷ xs) [] = a ∷ xs
add (a ∷ xs) (b ∷ bs) = (a +ℤ b) ∷ add xs bs

abbrev pub scale_by : ℤ → List ℤ → List ℤ
scale_by c [] = []
scale_by c (a ∷ xs) = (c *ℤ a) ∷ scale_by c xs

abbrev pub mul : List ℤ → List ℤ → List ℤ
mul [] bs = []
mul (a ∷ xs) bs = add (scale_by a bs) (pos 0 ∷ mul xs bs)

-- the count coefficients from place k on
abbrev pub coefficients : ℕ → ℕ → ℕ → List ℤ
coefficients odd k zero = []
coefficients odd k (suc n) = alternating k (pos (weight (2 * k + odd))) ∷ coefficients odd (suc k) n

-- cosine² + square · sine²
unfoldable pub squares : List ℤ
squares = add (mul (coefficients 0 0 21) (coefficients 0 0 21)) (pos 0 ∷ mul (coefficients 1 0 20) (coefficients 1 0 20))

-- the first 21 coefficients are those of the constant E²
pub squares-front : take 21 squares ≡ pos (denominator * denominator) ∷ replicate 20 (pos 0)
unfolding squares alternating factorial denominator
squares-front = refl

eval-add : (xs ys : List ℤ) (z : ℤ) → eval (add xs ys) z ≡ eval xs z +ℤ eval ys z
eval-add [] ys z = omega (arith, ints)
eval-add (x ∷ xs) [] z = omega (arith, ints)
eval-add (x ∷ xs) (y ∷ ys) z = rw (eval-add xs ys z) (omega (arith, ints, products))

eval-scale_by : (c : ℤ) (xs : List ℤ) (z : ℤ) → eval (scale_by c xs) z ≡ c *ℤ eval xs z
eval-scale_by c [] z = omega (arith, ints)
eval-scale_by c (x ∷ xs) z = rw (eval-scale_by c xs z, times_swap z c (eval xs z)) (omega (arith, ints, products))

eval-mul : (xs ys : List ℤ) (z : ℤ) → eval (mul xs ys) z ≡ eval xs z *ℤ eval ys z
eval-mul [] ys z = omega (arith, ints)
eval-mul (x ∷ xs) ys z = rw (eval-add (scale_by x ys) (pos 0 ∷ mul xs ys) z, eval-scale_by x ys z, eval-mul xs ys z) (gather x z (eval xs z) (eval ys z))
  where
    gather : (x z u v : ℤ) → x *ℤ v +ℤ (pos 0 +ℤ z *ℤ (u *ℤ v)) ≡ (x +ℤ z *ℤ u) *ℤ v
    gather x z u v = rw (← *ℤ_assoc z u v) (omega (arith, ints, products))

-- the sizes of the coefficients, evaluated
abbrev pub eval_sizes : List ℤ → ℕ → ℕ
eval_sizes [] z = 0
eval_sizes (x ∷ xs) z = nat_abs x + z * eval_sizes xs z

eval-within : (xs : List ℤ) (z m : ℕ) → z ≤ m → nat_abs (eval xs (pos z)) ≤ eval_sizes xs m
eval-within [] z m h = omega arith
eval-within (x ∷ xs) z m h =
    let product : z * nat_abs (eval xs (pos z)) ≤ m * eval_sizes xs m = mul-le-mul h (eval-within xs z m h) in
    let size = unsigned_abs-mul (pos z) (eval xs (pos z)) in
    sum_within x (pos z *ℤ eval xs (pos z)) (m * eval_sizes xs m) (rw size product)
  where
    sum_within : (x y : ℤ) (b : ℕ) → nat_abs y ≤ b → nat_abs (x +ℤ y) ≤ nat_abs x + b
    sum_within x y b h = omega (arith, ints)

pub next_power : (x a b : ℤ) (z y : ℕ) → x +ℤ pos z *ℤ (a +ℤ pos y *ℤ b) ≡ x +ℤ pos z *ℤ a +ℤ pos (y * z) *ℤ b
next_power x a b z y = omega (arith, ints, products, *ℤ_assoc (pos z) (pos y) b)

eval-split : (n : ℕ) (xs : List ℤ) (z : ℕ) → eval xs (pos z) ≡ eval (take n xs) (pos z) +ℤ pos (z ^ n) *ℤ eval (drop n xs) (pos z)
eval-split zero xs z = rw pow-zero (omega (arith, ints))
eval-split (suc n) [] z = omega (arith, ints)
eval-split (suc n) (x ∷ xs) z = rw (eval-split n xs z, pow-suc z n) (next_power x (eval (take n xs) (pos z)) (eval (drop n xs) (pos z)) z (z ^ n))

eval-zeros : (n : ℕ) (z : ℤ) → eval (replicate n (pos 0)) z ≡ pos 0
eval-zeros zero z = refl
eval-zeros (suc n) z = rw (eval-zeros n z) (omega (arith, ints))

squares-tail : nat_le ((49 * 10 ^ 12) ^ 21 * eval_sizes (drop 21 squares) (49 * 10 ^ 12)) (denominator * denominator) ≡ true
unfolding squares alternating factorial denominator
squares-tail = refl

close : (c d y : ℕ) (r : ℤ) → y * nat_abs r ≤ d → (pos c +ℤ pos y *ℤ r) ≤ℤ pos (c + d)
close c d y r h =
    let size : nat_abs (pos y *ℤ r) ≤ d = rw (unsigned_abs-mul (pos y) r) h in
    finish c d (pos y *ℤ r) size
  where
    finish : (c d : ℕ) (x : ℤ) → nat_abs x ≤ d → (pos c +ℤ x) ≤ℤ pos (c + d)
    finish c d x h = omega (arith, ints)

-- a polynomial whose first coefficients are a constant and zeros
constant_and_tail : (xs : List ℤ) (n z m c d : ℕ) → take (suc n) xs ≡ pos c ∷ replicate n (pos 0) → z ≤ m → m ^ suc n * eval_sizes (drop (suc n) xs) m ≤ d → eval xs (pos z) ≤ℤ pos (c + d)
constant_and_tail xs n z m c d front h small =
    let split = eval-split (suc n) xs z in
    let constant : eval (take (suc n) xs) (pos z) ≡ pos c = ap (λ (ys : List ℤ). eval ys (pos z)) front ∙ constant_is c n (pos z) in
    let product : z ^ suc n * nat_abs (eval (drop (suc n) xs) (pos z)) ≤ m ^ suc n * eval_sizes (drop (suc n) xs) m = mul-le-mul (pow-le-pow_left h (suc n)) (eval-within (drop (suc n) xs) z m h) in
    rw (split, constant) (close c d (z ^ suc n) (eval (drop (suc n) xs) (pos z)) (le_trans product small))
  where
    constant_is : (c n : ℕ) (z : ℤ) → eval (pos c ∷ replicate n (pos 0)) z ≡ pos c
    constant_is c n z = rw (eval-zeros n z) (omega (arith, ints))

-- P² + Q² is at most 2 E²
pub squares-within : (z : ℕ) → z ≤ 49 * 10 ^ 12 → eval squares (pos z) ≤ℤ pos (denominator * denominator + denominator * denominator)
squares-within z h = constant_and_tail squares 20 z (49 * 10 ^ 12) (denominator * denominator) (denominator * denominator) squares-front h (leb-true _ _ squares-tail)

pub squares-parts : (z : ℤ) → eval squares z ≡ eval (coefficients 0 0 21) z *ℤ eval (coefficients 0 0 21) z +ℤ z *ℤ (eval (coefficients 1 0 20) z *ℤ eval (coefficients 1 0 20) z)
unfolding squares
squares-parts z = parts (coefficients 0 0 21) (coefficients 1 0 20) z
  where
    parts : (xs ys : List ℤ) (z : ℤ) → eval (add (mul xs xs) (pos 0 ∷ mul ys ys)) z ≡ eval xs z *ℤ eval xs z +ℤ z *ℤ (eval ys z *ℤ eval ys z)
    parts xs ys z = rw (eval-add (mul xs xs) (pos 0 ∷ mul ys ys) z, eval-mul xs xs z, eval-mul ys ys z) (omega (arith, ints))
