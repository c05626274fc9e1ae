-- Sizes and values of products and differences as the code computes them.
use Rattle.std.proofs.Common.{◌≡◌, ℕ, ◌*◌, ◌≤◌, ◌<◌, ◌^◌, arith, refl, sym, ◌∙◌}
use Rattle.std.specs.Prelude.{nat_abs}
use Rattle.std.specs.Int.RustNames.{FitsSigned}
use Rattle.std.proofs.lemmas.Int.{ints, fits_signed_mul, unsigned_abs-mul, to_z-of_z}
use lib.IntN.{ℤ, pos, ◌*ℤ◌, ◌-ℤ◌, ◌+ℤ◌}
use Rattle.std.specs.Bool.{IsTrue}
use borrow.Author.Differences.{true_is_le}
use lib.Signed.{mag, le_z, ◌≤ℤ◌, ◌<ℤ◌}
use mir.Syntax.{w64, w128}
use mir.Val.{to_z, of_z}
use Rattle.spot_terms.proofs.Orders.{product_order}

pub product_within : (a b : ℤ) (m n : ℕ) → nat_abs a ≤ m → nat_abs b ≤ n → nat_abs (a *ℤ b) ≤ m * n
product_within a b m n h k = rw (unsigned_abs-mul a b) (product_order (nat_abs a) (nat_abs b) m n h k)

pub product_fits : (a b : ℤ) → nat_abs a ≤ 100000000000000 → nat_abs b ≤ 100000000000000 → FitsSigned w128 (a *ℤ b)
product_fits a b h k = fits_signed_mul w128 a b 100000000000000 100000000000000 h k (omega arith)

-- the product as the code computes it
pub product_is_exact : (a b : ℤ) → FitsSigned w128 a → FitsSigned w128 b → nat_abs a ≤ 100000000000000 → nat_abs b ≤ 100000000000000 → to_z w128 (of_z w128 (to_z w128 (of_z w128 a) *ℤ to_z w128 (of_z w128 b))) ≡ a *ℤ b
product_is_exact a b fa fb h k =
    rw (to_z-of_z w128 a fa, to_z-of_z w128 b fb) (to_z-of_z w128 (a *ℤ b) (product_fits a b h k))

-- what a call that is handed two numbers says of their product
pub times_of : (r a b x y : ℤ) → r ≡ to_z w64 (of_z w64 a) *ℤ to_z w64 (of_z w64 b) → FitsSigned w64 a → FitsSigned w64 b → a ≡ x → b ≡ y → r ≡ x *ℤ y
times_of r a b x y e fa fb h k = e ∙ rw (to_z-of_z w64 a fa, to_z-of_z w64 b fb, h, k) refl

-- a difference of products, as the code computes it
pub minus_of : (r s x y : ℤ) → nat_abs r ≤ 10000000000000000000000000000 → nat_abs s ≤ 10000000000000000000000000000 → r ≡ x → s ≡ y → to_z w128 (of_z w128 (to_z w128 (of_z w128 r) -ℤ to_z w128 (of_z w128 s))) ≡ x -ℤ y
minus_of r s x y h k e f = omega (arith, ints)

pub plus_of : (r s x y : ℤ) → nat_abs r ≤ 10000000000000000000000000000 → nat_abs s ≤ 10000000000000000000000000000 → r ≡ x → s ≡ y → to_z w128 (of_z w128 (to_z w128 (of_z w128 r) +ℤ to_z w128 (of_z w128 s))) ≡ x +ℤ y
plus_of r s x y h k e f = omega (arith, ints)

-- what a call that is handed two coordinates says of the offset
pub offset_of : (r a b : ℤ) → nat_abs a ≤ 40000000000000 → nat_abs b ≤ 40000000000000 → r ≡ to_z w64 (of_z w64 b) -ℤ to_z w64 (of_z w64 a) → r ≡ b -ℤ a
offset_of r a b h k e = omega (arith, ints)

-- the test that a number is not below 0, as the code makes it
pub test_not_below : (r : ℤ) → mag r < 2 ^ 127 → pos 0 ≤ℤ r → IsTrue (le_z (pos 0) (to_z w128 (of_z w128 r)))
test_not_below r fits h =
    let back : to_z w128 (of_z w128 r) ≡ r = to_z-of_z w128 r (record { sfits = fits }) in
    rw back (sym (true_is_le (pos 0) r (omega (arith, ints))))

-- a number of 64 bits, as the code reads it back
pub back : (z : ℤ) → mag z < 9223372036854775808 → to_z w64 (of_z w64 z) ≡ z
back z h = to_z-of_z w64 z (record { sfits = h })

pub small_back : (z : ℤ) → nat_abs z ≤ 9_000_000_000_000_000_000 → to_z w64 (of_z w64 z) ≡ z
small_back z h = omega (arith, ints)

factor : (a x : ℤ) → nat_abs a ≤ 2000 → nat_abs x ≤ 40000000000000 → to_z w64 (of_z w64 (to_z w64 (of_z w64 a) *ℤ to_z w64 (of_z w64 x))) ≡ a *ℤ x
factor a x h k =
    let within : nat_abs (a *ℤ x) ≤ 80000000000000000 = omega (arith, product_within a x 2000 40000000000000 h k) in
    rw (small_back a (omega (arith, h)), small_back x (omega (arith, k))) (small_back (a *ℤ x) (omega (arith, within)))

sum_small : (p q : ℤ) → nat_abs p ≤ 80000000000000000 → nat_abs q ≤ 80000000000000000 → nat_abs (p +ℤ q) ≤ 160000000000000000
sum_small p q h k = omega (arith, ints)

-- normal · point, as the code computes it
pub dot_is : (a b x y : ℤ) → nat_abs a ≤ 2000 → nat_abs b ≤ 2000 → nat_abs x ≤ 40000000000000 → nat_abs y ≤ 40000000000000
    → to_z w64 (of_z w64 (to_z w64 (of_z w64 (to_z w64 (of_z w64 a) *ℤ to_z w64 (of_z w64 x))) +ℤ to_z w64 (of_z w64 (to_z w64 (of_z w64 b) *ℤ to_z w64 (of_z w64 y))))) ≡ a *ℤ x +ℤ b *ℤ y
dot_is a b x y ha hb hx hy =
    let p : nat_abs (a *ℤ x) ≤ 80000000000000000 = omega (arith, product_within a x 2000 40000000000000 ha hx) in
    let q : nat_abs (b *ℤ y) ≤ 80000000000000000 = omega (arith, product_within b y 2000 40000000000000 hb hy) in
    rw (factor a x ha hx, factor b y hb hy) (small_back (a *ℤ x +ℤ b *ℤ y) (omega (arith, sum_small (a *ℤ x) (b *ℤ y) p q)))

pub dot_fits : (a b x y : ℤ) → nat_abs a ≤ 2000 → nat_abs b ≤ 2000 → nat_abs x ≤ 40000000000000 → nat_abs y ≤ 40000000000000
    → nat_abs (to_z w64 (of_z w64 (to_z w64 (of_z w64 a) *ℤ to_z w64 (of_z w64 x))) +ℤ to_z w64 (of_z w64 (to_z w64 (of_z w64 b) *ℤ to_z w64 (of_z w64 y)))) ≤ 160000000000000000
dot_fits a b x y ha hb hx hy =
    let p : nat_abs (a *ℤ x) ≤ 80000000000000000 = omega (arith, product_within a x 2000 40000000000000 ha hx) in
    let q : nat_abs (b *ℤ y) ≤ 80000000000000000 = omega (arith, product_within b y 2000 40000000000000 hb hy) in
    rw (factor a x ha hx, factor b y hb hy) (sum_small (a *ℤ x) (b *ℤ y) p q)

-- the test that a number is not above 0, as the code makes it
pub test_not_above : (r : ℤ) → mag r < 2 ^ 127 → r ≤ℤ pos 0 → IsTrue (le_z (to_z w128 (of_z w128 r)) (pos 0))
test_not_above r fits h =
    let same : to_z w128 (of_z w128 r) ≡ r = to_z-of_z w128 r (record { sfits = fits }) in
    rw same (sym (true_is_le r (pos 0) (omega (arith, ints))))

pub back_wide : (z : ℤ) → nat_abs z ≤ 10000000000000000000000000000 → to_z w128 (of_z w128 z) ≡ z
back_wide z h = omega (arith, ints)

-- the test that a number is at most another, as the code makes it
pub test_at_most : (r s : ℤ) → mag r < 2 ^ 127 → mag s < 2 ^ 127 → r ≤ℤ s → IsTrue (le_z (to_z w128 (of_z w128 r)) (to_z w128 (of_z w128 s)))
test_at_most r s fits_r fits_s h =
    let first : to_z w128 (of_z w128 r) ≡ r = to_z-of_z w128 r (record { sfits = fits_r }) in
    let second : to_z w128 (of_z w128 s) ≡ s = to_z-of_z w128 s (record { sfits = fits_s }) in
    rw (first, second) (sym (true_is_le r s (omega (arith, ints))))

-- a coordinate and a quotient
pub plus_is : (f q from : ℤ) → nat_abs from ≤ 40000000000000 → nat_abs q ≤ 10000000000000000000000000000 → f ≡ from → to_z w128 (of_z w128 (to_z w128 (of_z w128 f) +ℤ to_z w128 (of_z w128 q))) ≡ from +ℤ q
plus_is f q from h k e = omega (arith, ints)

pub minus_is : (f q from : ℤ) → nat_abs from ≤ 40000000000000 → nat_abs q ≤ 10000000000000000000000000000 → f ≡ from → to_z w128 (of_z w128 (to_z w128 (of_z w128 f) -ℤ to_z w128 (of_z w128 q))) ≡ from -ℤ q
minus_is f q from h k e = omega (arith, ints)

pub between_back : (z lo hi : ℤ) → nat_abs lo ≤ 40000000000000 → nat_abs hi ≤ 40000000000000 → lo ≤ℤ z → z <ℤ hi → to_z w64 (of_z w64 z) ≡ z
between_back z lo hi h k l u = omega (arith, ints)

pub between_back_up : (z lo hi : ℤ) → nat_abs lo ≤ 40000000000000 → nat_abs hi ≤ 40000000000000 → lo <ℤ z → z ≤ℤ hi → to_z w64 (of_z w64 z) ≡ z
between_back_up z lo hi h k l u = omega (arith, ints)

-- ---- the fall of an edge
pub fall_above : (r a b : ℤ) → nat_abs a ≤ 40000000000000 → nat_abs b ≤ 40000000000000 → r ≡ b -ℤ a → r <ℤ pos 0 → pos 0 <ℤ to_z w64 (of_z w64 (pos 0 -ℤ to_z w64 (of_z w64 r)))
fall_above r a b h k e l = omega (arith, ints)

pub fall_size : (r a b : ℤ) → nat_abs a ≤ 40000000000000 → nat_abs b ≤ 40000000000000 → r ≡ b -ℤ a → nat_abs (to_z w64 (of_z w64 (pos 0 -ℤ to_z w64 (of_z w64 r)))) ≤ 100000000000000
fall_size r a b h k e = omega (arith, ints)

pub minus_back : (r a b : ℤ) → nat_abs a ≤ 40000000000000 → nat_abs b ≤ 40000000000000 → r ≡ b -ℤ a → to_z w64 (of_z w64 (pos 0 -ℤ r)) ≡ a -ℤ b
minus_back r a b h k e = omega (arith, ints)

pub level_way : (r a b : ℤ) → r ≡ b -ℤ a → r ≡ pos 0 → a ≡ b
level_way r a b e f = omega (arith, ints)

pub minus_size : (r s : ℤ) → nat_abs r ≤ 10000000000000000000000000000 → nat_abs s ≤ 10000000000000000000000000000 → nat_abs (to_z w128 (of_z w128 (to_z w128 (of_z w128 r) -ℤ to_z w128 (of_z w128 s)))) ≤ 20000000000000000000000000000
minus_size r s h k = omega (arith, ints)

-- a way between two coordinates, as the code reads it back
pub offset_back : (r a b : ℤ) → nat_abs a ≤ 40000000000000 → nat_abs b ≤ 40000000000000 → r ≡ to_z w64 (of_z w64 b) -ℤ to_z w64 (of_z w64 a) → to_z w64 (of_z w64 r) ≡ b -ℤ a
offset_back r a b h k e = omega (arith, ints)
