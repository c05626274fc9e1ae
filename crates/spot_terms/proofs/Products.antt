-- Products of signed sums, for `omega (arith, ints, products)`, which reads z as `up z - down z` and does not multiply a sum out by itself.
use Rattle.std.proofs.Common.{◌≡◌, ℕ, ◌+◌, ◌*◌, ◌<◌, ◌≤◌, arith, ap, sym, ◌∙◌, mul-le-mul_left, ℤ, pos, negsuc, ◌+ℤ◌, ◌-ℤ◌, ◌*ℤ◌, ◌≤ℤ◌, neg_ℤ}
use Rattle.std.proofs.lemmas.Int.{ints}
use Rattle.spot_terms.specs.Whole.{square}
use Rattle.spot_terms.proofs.Roots.{root_order}
use Rattle.std.proofs.Math.IntN.{*ℤ_comm}
use borrow.Author.Differences.{up, down, sum_is_lem, product_is, neg_is}

-- s is x - y + (u - v), as a difference p - q: multiplied by the number n
scaled : (p q x y u v n : ℕ) → p + y + v ≡ q + x + u → p * n + y * n + v * n ≡ q * n + x * n + u * n
scaled p q x y u v n e = omega (arith, ap (λ (m : ℕ). m * n) e)

pub sum_times : (a b c : ℤ) → up ((a +ℤ b) *ℤ c) + down (a *ℤ c) + down (b *ℤ c) ≡ down ((a +ℤ b) *ℤ c) + up (a *ℤ c) + up (b *ℤ c)
sum_times a b c =
    let positive = scaled (up (a +ℤ b)) (down (a +ℤ b)) (up a) (down a) (up b) (down b) (up c) (sum_is_lem a b) in
    let negative = scaled (up (a +ℤ b)) (down (a +ℤ b)) (up a) (down a) (up b) (down b) (down c) (sum_is_lem a b) in
    omega (arith, product_is (a +ℤ b) c, product_is a c, product_is b c)

pub times_sum : (a b c : ℤ) → up (c *ℤ (a +ℤ b)) + down (c *ℤ a) + down (c *ℤ b) ≡ down (c *ℤ (a +ℤ b)) + up (c *ℤ a) + up (c *ℤ b)
times_sum a b c = omega (arith, sum_times a b c, product_is c (a +ℤ b), product_is (a +ℤ b) c, product_is a c, product_is b c, product_is c a, product_is c b)

pub neg_times : (a b : ℤ) → (up (neg_ℤ a *ℤ b) ≡ down (a *ℤ b)) × (down (neg_ℤ a *ℤ b) ≡ up (a *ℤ b))
neg_times a b =
    let positive : up (neg_ℤ a) ≡ down a = (neg_is a).0 in
    let negative : down (neg_ℤ a) ≡ up a = (neg_is a).1 in
    omega (arith, product_is (neg_ℤ a) b, product_is a b, ap (λ (m : ℕ). m * up b) positive, ap (λ (m : ℕ). m * down b) positive, ap (λ (m : ℕ). m * up b) negative, ap (λ (m : ℕ). m * down b) negative)

pub times_neg : (a b : ℤ) → (up (b *ℤ neg_ℤ a) ≡ down (b *ℤ a)) × (down (b *ℤ neg_ℤ a) ≡ up (b *ℤ a))
times_neg a b = omega (arith, neg_times a b, product_is b (neg_ℤ a), product_is (neg_ℤ a) b, product_is a b, product_is b a)

pub ruleset products = (sum_times, times_sum, neg_times, times_neg)

pub square_not_negative : (a : ℤ) → pos 0 ≤ℤ (a *ℤ a)
square_not_negative (pos n) = omega (arith, ints)
square_not_negative (negsuc n) = omega (arith, ints)

-- the square of a number and of its size
pub square_of_size : (a : ℤ) → a *ℤ a ≡ pos (square a)
square_of_size (pos n) = omega (arith, ints)
square_of_size (negsuc n) = omega (arith, ints)

-- the square of a sum is at most twice the sum of the squares
pub sum_square_le : (a b : ℤ) → ((a +ℤ b) *ℤ (a +ℤ b)) ≤ℤ (pos 2 *ℤ (a *ℤ a +ℤ b *ℤ b))
sum_square_le a b = omega (arith, ints, products, square_not_negative (a -ℤ b))

pub difference_square_le : (a b : ℤ) → ((a -ℤ b) *ℤ (a -ℤ b)) ≤ℤ (pos 2 *ℤ (a *ℤ a +ℤ b *ℤ b))
difference_square_le a b = omega (arith, ints, products, square_not_negative (a +ℤ b))

-- a number whose square is at most the number n, of the root r, is at most r
pub at_most_root : (x : ℤ) (n r : ℕ) → (x *ℤ x) ≤ℤ pos n → n < (r + 1) * (r + 1) → x ≤ℤ pos r
at_most_root (pos m) n r h g = let low : m * m ≤ n = omega (arith, ints) in let below = root_order n r m low g in omega (arith, ints)
at_most_root (negsuc m) n r h g = omega (arith, ints)

-- and so is its opposite
pub opposite_at_most_root : (x : ℤ) (n r : ℕ) → (x *ℤ x) ≤ℤ pos n → n < (r + 1) * (r + 1) → neg_ℤ x ≤ℤ pos r
opposite_at_most_root x n r h g = at_most_root (neg_ℤ x) n r (omega (arith, ints, products)) g

pub opposite_square : (a : ℤ) → neg_ℤ a *ℤ neg_ℤ a ≡ a *ℤ a
opposite_square a = omega (arith, ints, products)

-- products regroup
pub *ℤ_assoc : (a b c : ℤ) → (a *ℤ b) *ℤ c ≡ a *ℤ (b *ℤ c)
*ℤ_assoc a b c =
    let left = product_is a b in
    let right = product_is b c in
    omega (arith, ints, ap (λ (m : ℕ). m * up c) left.0, ap (λ (m : ℕ). m * down c) left.0, ap (λ (m : ℕ). m * up c) left.1, ap (λ (m : ℕ). m * down c) left.1, ap (λ (m : ℕ). up a * m) right.0, ap (λ (m : ℕ). down a * m) right.0, ap (λ (m : ℕ). up a * m) right.1, ap (λ (m : ℕ). down a * m) right.1)

-- an order times a number that is not negative
pub scaled_order : (n : ℕ) (a b : ℤ) → a ≤ℤ b → (pos n *ℤ a) ≤ℤ (pos n *ℤ b)
scaled_order n a b h =
    let parts : n * (up a + down b) ≤ n * (up b + down a) = (let order : up a + down b ≤ up b + down a = omega (arith, ints) in mul-le-mul_left n order) in
    omega (arith, ints)

pub times_swap : (a b c : ℤ) → a *ℤ (b *ℤ c) ≡ b *ℤ (a *ℤ c)
times_swap a b c = sym (*ℤ_assoc a b c) ∙ ap (λ (z : ℤ). z *ℤ c) (*ℤ_comm a b) ∙ *ℤ_assoc b a c
