-- Orders, signs, sums and products of whole numbers: what many proofs need between two steps.
use Rattle.std.proofs.Common.{◌≡◌, ◌≢◌, ℕ, zero, suc, ◌+◌, ◌*◌, ◌≤◌, ◌<◌, ◌⊎◌, inl, inr, arith, rules, refl, [], ◌∷◌, Bool, true, false, mul-le-mul}
use Rattle.std.specs.Prelude.{◌==◌, int_le, int_lt}
use Rattle.std.specs.Int.{int_max, int_min}
use Rattle.std.proofs.lemmas.Bool.Decides.{nat_tests}
use Rattle.std.proofs.lemmas.Int.{ints, clamps}
use lib.IntN.{ℤ, pos, negsuc, neg_ℤ, ◌+ℤ◌, ◌-ℤ◌, ◌*ℤ◌}
use lib.Signed.{◌≤ℤ◌, ◌<ℤ◌}
use Rattle.spot_terms.specs.Whole.{quotient_floor}
use Rattle.spot_terms.proofs.Ring.{ring, var, num, ◌⊖◌, ◌⊗◌}

-- ---- at most, below, equal

pub reflexive : (a : ℤ) → a ≤ℤ a
reflexive a = omega (arith, ints)

pub irreflexive : (a : ℤ) → a <ℤ a → ⊥
irreflexive a h = omega (arith, ints)

pub antisymmetric : (a b : ℤ) → a ≤ℤ b → b ≤ℤ a → a ≡ b
antisymmetric a b h k = omega (arith, ints)

pub asymmetric : (a b : ℤ) → a <ℤ b → b <ℤ a → ⊥
asymmetric a b h k = omega (arith, ints)

pub at_most_trans : (a b c : ℤ) → a ≤ℤ b → b ≤ℤ c → a ≤ℤ c
at_most_trans a b c h k = omega (arith, ints)

pub below_trans : (a b c : ℤ) → a <ℤ b → b <ℤ c → a <ℤ c
below_trans a b c h k = omega (arith, ints)

pub at_most_below : (a b c : ℤ) → a ≤ℤ b → b <ℤ c → a <ℤ c
at_most_below a b c h k = omega (arith, ints)

pub below_at_most : (a b c : ℤ) → a <ℤ b → b ≤ℤ c → a <ℤ c
below_at_most a b c h k = omega (arith, ints)

pub weaken : (a b : ℤ) → a <ℤ b → a ≤ℤ b
weaken a b h = omega (arith, ints)

pub below_next : (a b : ℤ) → a <ℤ (b +ℤ pos 1) → a ≤ℤ b
below_next a b h = omega (arith, ints)

pub equal_at_most : (a b : ℤ) → a ≡ b → a ≤ℤ b
equal_at_most a b e = omega (arith, ints)

pub equal_at_least : (a b : ℤ) → a ≡ b → b ≤ℤ a
equal_at_least a b e = omega (arith, ints)

pub below_not_at_least : (a b : ℤ) → a <ℤ b → b ≤ℤ a → ⊥
below_not_at_least a b h k = omega (arith, ints)

pub at_most_not_above : (a b : ℤ) → a ≤ℤ b → b <ℤ a → ⊥
at_most_not_above a b h k = omega (arith, ints)

pub below_not_equal : (a b : ℤ) → a <ℤ b → a ≡ b → ⊥
below_not_equal a b h e = omega (arith, ints)

-- between two numbers of which the second isn't greater
pub equal_between : (a x b : ℤ) → a ≤ℤ x → x ≤ℤ b → b ≤ℤ a → a ≡ x
equal_between a x b h k l = omega (arith, ints, h, k, l)

pub at_most_or_at_least : (a b : ℤ) → (a ≤ℤ b) ⊎ (b ≤ℤ a)
at_most_or_at_least a b = grind (arith, ints)

pub at_most_or_above : (a b : ℤ) → (a ≤ℤ b) ⊎ (b <ℤ a)
at_most_or_above a b = grind (arith, ints)

-- ---- signs

pub zero_not_negative : (z : ℤ) → z ≡ pos 0 → pos 0 ≤ℤ z
zero_not_negative z e = omega (arith, ints)

pub zero_not_positive : (z : ℤ) → z ≡ pos 0 → pos 0 <ℤ z → ⊥
zero_not_positive z e h = omega (arith, ints)

pub positive_not_negative : (z : ℤ) → pos 0 <ℤ z → pos 0 ≤ℤ z
positive_not_negative z h = omega (arith, ints)

pub negative_clash : (z : ℤ) → z <ℤ pos 0 → pos 0 ≤ℤ z → ⊥
negative_clash z h k = omega (arith, ints)

pub is_zero : (z : ℤ) → (z ≡ pos 0) ⊎ (z ≡ pos 0 → ⊥)
is_zero (pos zero) = inl refl
is_zero (pos (suc n)) = inr (λ e. cc)
is_zero (negsuc n) = inr (λ e. cc)

-- a number that isn't negative is a natural number
pub natural_of : (z : ℤ) → pos 0 ≤ℤ z → (n : ℕ) × (z ≡ pos n)
natural_of (pos n) h = (n, refl)
natural_of (negsuc n) h = absurd (omega (arith, ints))

pub positive_natural : (n : ℕ) → 0 < n → pos 0 <ℤ pos n
positive_natural n h = omega (arith, ints)

pub pos_injective : (m n : ℕ) → pos m ≡ pos n → m ≡ n
pos_injective m n e = cc

-- ---- opposites, written as differences from 0

pub opposite_not_negative : (z : ℤ) → z ≤ℤ pos 0 → pos 0 ≤ℤ (pos 0 -ℤ z)
opposite_not_negative z h = omega (arith, ints)

pub opposite_of_negative : (z : ℤ) → z <ℤ pos 0 → pos 0 ≤ℤ (pos 0 -ℤ z)
opposite_of_negative z h = omega (arith, ints)

pub opposite_positive : (z : ℤ) → z <ℤ pos 0 → pos 0 <ℤ (pos 0 -ℤ z)
opposite_positive z h = omega (arith, ints)

pub opposite_negative : (z : ℤ) → pos 0 <ℤ z → (pos 0 -ℤ z) ≤ℤ pos 0
opposite_negative z h = omega (arith, ints)

pub not_positive_of_opposite : (z : ℤ) → pos 0 ≤ℤ (pos 0 -ℤ z) → z ≤ℤ pos 0
not_positive_of_opposite z h = omega (arith, ints)

pub zero_of_opposite : (z : ℤ) → pos 0 -ℤ z ≡ pos 0 → z ≡ pos 0
zero_of_opposite z e = omega (arith, ints)

pub zero_by_signs : (z : ℤ) → pos 0 ≤ℤ z → pos 0 ≤ℤ (pos 0 -ℤ z) → z ≡ pos 0
zero_by_signs z h k = omega (arith, ints)

pub opposite_order : (a b : ℤ) → a ≤ℤ b → (pos 0 -ℤ b) ≤ℤ (pos 0 -ℤ a)
opposite_order a b h = omega (arith, ints)

pub opposite_is : (z : ℤ) → pos 0 -ℤ z ≡ neg_ℤ z
opposite_is z = omega (arith, ints)

pub opposite_twice : (z : ℤ) → pos 0 -ℤ (pos 0 -ℤ z) ≡ z
opposite_twice z = omega (arith, ints)

-- the opposite of a number above 0 is below 0
pub opposite_clash : (z w : ℤ) → z ≡ pos 0 -ℤ w → pos 0 ≤ℤ z → pos 0 <ℤ w → ⊥
opposite_clash z w e h k = omega (arith, ints)

-- ---- sums and differences

pub plus_zero : (z : ℤ) → z +ℤ pos 0 ≡ z
plus_zero z = omega (arith, ints)

pub plus_minus : (z d : ℤ) → z +ℤ d -ℤ d ≡ z
plus_minus z d = omega (arith, ints)

pub minus_itself : (z : ℤ) → z -ℤ z ≡ pos 0
minus_itself z = omega (arith, ints)

pub sum_behind : (a s t r : ℤ) → s +ℤ t ≡ r → (a +ℤ s) +ℤ t ≡ a +ℤ r
sum_behind a s t r e = omega (arith, ints)

pub sum_swap : (a b : ℤ) → a +ℤ b ≡ b +ℤ a
sum_swap a b = omega (arith, ints)

pub sum_not_negative : (a b : ℤ) → pos 0 ≤ℤ a → pos 0 ≤ℤ b → pos 0 ≤ℤ (a +ℤ b)
sum_not_negative a b h k = omega (arith, ints)

pub sum_positive : (a b : ℤ) → pos 0 <ℤ a → pos 0 ≤ℤ b → pos 0 <ℤ (a +ℤ b)
sum_positive a b h k = omega (arith, ints)

pub sum_of_positives : (a b : ℤ) → pos 0 <ℤ a → pos 0 <ℤ b → pos 0 <ℤ (a +ℤ b)
sum_of_positives a b h k = omega (arith, ints)

pub difference_not_negative : (a b : ℤ) → a ≤ℤ b → pos 0 ≤ℤ (b -ℤ a)
difference_not_negative a b h = omega (arith, ints)

pub difference_positive : (a b : ℤ) → a <ℤ b → pos 0 <ℤ (b -ℤ a)
difference_positive a b h = omega (arith, ints)

pub difference_of_below : (a b : ℤ) → a <ℤ b → pos 0 ≤ℤ (b -ℤ a)
difference_of_below a b h = omega (arith, ints)

pub difference_across : (a b c : ℤ) → a ≤ℤ b → b ≤ℤ c → pos 0 ≤ℤ (c -ℤ a)
difference_across a b c h k = omega (arith, ints)

pub at_most_of_difference : (a b : ℤ) → pos 0 ≤ℤ (b -ℤ a) → a ≤ℤ b
at_most_of_difference a b h = omega (arith, ints)

pub below_of_difference : (a b : ℤ) → pos 0 <ℤ (b -ℤ a) → a <ℤ b
below_of_difference a b h = omega (arith, ints)

pub difference_not_positive : (a b : ℤ) → a ≤ℤ b → (a -ℤ b) ≤ℤ pos 0
difference_not_positive a b h = omega (arith, ints)

pub equal_of_difference : (a b : ℤ) → pos 0 ≡ a -ℤ b → a ≡ b
equal_of_difference a b e = omega (arith, ints)

-- ---- products

pub zero_times : (z : ℤ) → pos 0 *ℤ z ≡ pos 0
zero_times z = omega (arith, ints)

pub times_zero : (z : ℤ) → z *ℤ pos 0 ≡ pos 0
times_zero z = omega (arith, ints)

pub one_times : (z : ℤ) → pos 1 *ℤ z ≡ z
one_times z = omega (arith, ints)

-- sums of which one number counts once, and the other not
pub first_alone : (x y : ℤ) → pos 1 *ℤ x +ℤ pos 0 *ℤ y ≡ x
first_alone x y = omega (arith, ints)

pub second_alone : (x y : ℤ) → pos 0 *ℤ x +ℤ pos 1 *ℤ y ≡ y
second_alone x y = omega (arith, ints)

pub product_not_negative : (a b : ℤ) → pos 0 ≤ℤ a → pos 0 ≤ℤ b → pos 0 ≤ℤ (a *ℤ b)
product_not_negative a b h k = grind (arith, ints)

pub product_positive : (a b : ℤ) → pos 0 <ℤ a → pos 0 <ℤ b → pos 0 <ℤ (a *ℤ b)
product_positive (pos (suc a)) (pos (suc b)) h k = omega (arith, ints)
product_positive (pos zero) b h k = absurd (omega (arith, ints))
product_positive (negsuc a) b h k = absurd (omega (arith, ints))
product_positive (pos (suc a)) (pos zero) h k = absurd (omega (arith, ints))
product_positive (pos (suc a)) (negsuc b) h k = absurd (omega (arith, ints))

pub square_positive : (z : ℤ) → pos 0 <ℤ z → pos 0 <ℤ (z *ℤ z)
square_positive z h = product_positive z z h h

-- a factor of a product whose other factor is above 0
pub factor_not_negative : (d z : ℤ) → pos 0 <ℤ d → pos 0 ≤ℤ (d *ℤ z) → pos 0 ≤ℤ z
factor_not_negative d (pos n) h k = omega (arith, ints)
factor_not_negative (pos (suc m)) (negsuc n) h k = absurd (omega (arith, ints))
factor_not_negative (pos zero) (negsuc n) h k = absurd (omega (arith, ints))
factor_not_negative (negsuc m) (negsuc n) h k = absurd (omega (arith, ints))

pub factor_zero : (d z : ℤ) → pos 0 <ℤ d → d *ℤ z ≡ pos 0 → z ≡ pos 0
factor_zero (pos zero) z h e = absurd (omega (arith, ints))
factor_zero (negsuc m) z h e = absurd (omega (arith, ints))
factor_zero (pos (suc m)) (pos zero) h e = refl
factor_zero (pos (suc m)) (pos (suc n)) h e = absurd (omega (arith, ints, e))
factor_zero (pos (suc m)) (negsuc n) h e = absurd (omega (arith, ints, e))

-- an opposite as a factor
pub opposite_times : (a b : ℤ) → (pos 0 -ℤ a) *ℤ b ≡ pos 0 -ℤ (a *ℤ b)
opposite_times a b = ring (a ∷ b ∷ []) ((num (pos 0) ⊖ var 0) ⊗ var 1) (num (pos 0) ⊖ (var 0 ⊗ var 1)) refl

pub times_opposite : (a b : ℤ) → a *ℤ (pos 0 -ℤ b) ≡ pos 0 -ℤ (a *ℤ b)
times_opposite a b = ring (a ∷ b ∷ []) (var 0 ⊗ (num (pos 0) ⊖ var 1)) (num (pos 0) ⊖ (var 0 ⊗ var 1)) refl

pub opposites_times : (a b : ℤ) → (pos 0 -ℤ a) *ℤ (pos 0 -ℤ b) ≡ a *ℤ b
opposites_times a b = ring (a ∷ b ∷ []) ((num (pos 0) ⊖ var 0) ⊗ (num (pos 0) ⊖ var 1)) (var 0 ⊗ var 1) refl

-- ---- natural numbers

pub natural_antisymmetric : (m n : ℕ) → m ≤ n → n ≤ m → m ≡ n
natural_antisymmetric m n h k = omega arith

pub natural_weaken : (m n : ℕ) → m < n → m ≤ n
natural_weaken m n h = omega arith

pub below_or_at_least : (m n : ℕ) → (m < n) ⊎ (n ≤ m)
below_or_at_least m n = grind arith

-- a number below n + 1
pub below_or_here : (k n : ℕ) → k < n + 1 → (k < n) ⊎ (k ≡ n)
below_or_here k n h = grind arith

pub below_equal_or_above : (m n : ℕ) → (m < n) ⊎ ((m ≡ n) ⊎ (n < m))
below_equal_or_above m n = grind arith

pub next_is : (n : ℕ) → suc n ≡ n + 1
next_is n = omega arith

pub below_one_more : (k n : ℕ) → k < n → k < n + 1
below_one_more k n h = omega arith

-- ---- what tests answer

pub true_not_false : (b : Bool) → b ≡ true → b ≡ false → ⊥
true_not_false b h k = cc

pub at_most_of_true : (a b : ℤ) → int_le a b ≡ true → a ≤ℤ b
at_most_of_true a b h = search rules

pub above_of_false : (a b : ℤ) → int_le a b ≡ false → b <ℤ a
above_of_false a b h = search rules

pub below_true : (a b : ℤ) → a <ℤ b → int_lt a b ≡ true
below_true a b h = search (rules, h)

pub at_least_false : (a b : ℤ) → b ≤ℤ a → int_lt a b ≡ false
at_least_false a b h = search (rules, h)

pub at_most_true : (a b : ℤ) → a ≤ℤ b → int_le a b ≡ true
at_most_true a b h = search (rules, h)

pub above_false : (a b : ℤ) → b <ℤ a → int_le a b ≡ false
above_false a b h = search (rules, h)

pub below_of_true : (a b : ℤ) → int_lt a b ≡ true → a <ℤ b
below_of_true a b h = search (rules, h)

pub zero_true : (n : ℕ) → n ≡ 0 → (n == 0) ≡ true
zero_true n h = grind (arith, nat_tests)

pub zero_of_true : (n : ℕ) → (n == 0) ≡ true → n ≡ 0
zero_of_true n h = grind (arith, nat_tests)

pub not_zero_false : (n : ℕ) → n ≢ 0 → (n == 0) ≡ false
not_zero_false n h = grind (arith, nat_tests)

pub positive_of_false : (n : ℕ) → (n == 0) ≡ false → 0 < n
positive_of_false n h = grind (arith, nat_tests)

pub greater_itself : (a : ℤ) → int_max a a ≡ a
greater_itself a = omega (arith, ints, clamps)

pub greater_is : (a b m : ℤ) → m ≡ int_max a b → (a ≤ℤ m) × ((b ≤ℤ m) × ((m ≡ a) ⊎ (m ≡ b)))
greater_is a b m e = grind (arith, ints)

pub lesser_is : (a b m : ℤ) → m ≡ int_min a b → (m ≤ℤ a) × ((m ≤ℤ b) × ((m ≡ a) ⊎ (m ≡ b)))
lesser_is a b m e = grind (arith, ints)

pub greater_is_one : (a b : ℤ) → (int_max a b ≡ a) ⊎ (int_max a b ≡ b)
greater_is_one a b = grind (arith, ints, clamps)

-- ---- opposites by the sign

pub at_most_opposite : (a b : ℤ) → a ≤ℤ b → (pos 0 -ℤ b) ≤ℤ neg_ℤ a
at_most_opposite a b h = omega (arith, ints)

-- ---- products of natural numbers

pub product_order : (a b m n : ℕ) → a ≤ m → b ≤ n → a * b ≤ m * n
product_order a b m n h k = grind arith

-- squares are in the order of their roots
pub at_most_of_squares : (m n : ℕ) → m * m ≤ n * n → m ≤ n
at_most_of_squares m n h = elim (below_or_at_least n m) [
  | inl less ↦ absurd (let k : (n + 1) * (n + 1) ≤ m * m = mul-le-mul (omega arith) (omega arith) in omega (arith, h, k))
  | inr le ↦ le
]

pub at_most_greater_square : (a r s : ℕ) → a ≤ r * r → r ≤ s → a ≤ s * s
at_most_greater_square a r s h k = let p : r * r ≤ s * s = mul-le-mul k k in omega (arith, h, p)

pub factor_order : (a b c : ℕ) → a ≤ b → a * c ≤ b * c
factor_order a b c h = grind arith

-- a place in a row stands before the rows that come later
pub row_before : (i j stride m : ℕ) → i < j → m ≤ stride → i * stride + m ≤ j * stride
row_before i j stride m l h = let g : (i + 1) * stride ≤ j * stride = factor_order (i + 1) j stride (omega (arith, l)) in let e : (i + 1) * stride ≡ i * stride + stride = grind arith in omega (arith, g, e, h)

pub times_not_negative : (k : ℕ) (z : ℤ) → pos 0 ≤ℤ z → pos 0 ≤ℤ (pos k *ℤ z)
times_not_negative k (pos n) h = omega (arith, ints)
times_not_negative k (negsuc n) h = absurd (omega (arith, ints, h))

pub half_at_least : (x y : ℤ) → (pos 2 *ℤ x) ≤ℤ y → x ≤ℤ quotient_floor y (pos 2)
half_at_least x (pos n) h = omega (arith, ints)
half_at_least x (negsuc n) h = omega (arith, ints)

pub natural_trans : (a b c : ℕ) → a ≤ b → b ≤ c → a ≤ c
natural_trans a b c h k = omega (arith, h, k)

pub negative_times : (n : ℕ) (z : ℤ) → negsuc n *ℤ z ≡ neg_ℤ (pos (suc n) *ℤ z)
negative_times n z = omega (arith, ints)
