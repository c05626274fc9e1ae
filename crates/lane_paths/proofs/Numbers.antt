-- Sizes and tests of products of short vectors, as the code makes them.
use Rattle.std.proofs.Common.{◌≡◌, ℕ, ◌≤◌, true, false, arith, ap, ◌∙◌}
use Rattle.std.proofs.lemmas.Int.{ints}
use Rattle.std.specs.Prelude.{nat_abs}
use lib.IntN.{ℤ, pos, ◌*ℤ◌, ◌-ℤ◌, ◌+ℤ◌}
use lib.Signed.{◌≤ℤ◌, le_z}
use mir.Syntax.{w64}
use mir.Val.{to_z, of_z}
use Rattle.convex_poly.proofs.Wide.{small_back}

-- the size of a number that isn't below 0
pub size_is : (n : ℕ) (r x : ℤ) → nat_abs r ≤ 2_000_000_000_000_000_000 → pos n ≡ to_z w64 (of_z w64 r) → r ≡ x → pos n ≡ x
size_is n r x h e f = e ∙ small_back r (omega (arith, h)) ∙ f

-- a square
pub square_is : (n : ℕ) (r x : ℤ) → nat_abs r ≤ 2_000_000_000_000_000_000 → pos n ≡ to_z w64 (of_z w64 r) *ℤ to_z w64 (of_z w64 r) → r ≡ x → pos n ≡ x *ℤ x
square_is n r x h e f = e ∙ ap (λ z. z *ℤ z) (small_back r (omega (arith, h)) ∙ f)

-- the squared length of a segment
pub length_is : (n : ℕ) (r s t x y z : ℤ) → nat_abs r ≤ 2_000_000_000_000_000_000 → nat_abs s ≤ 2_000_000_000_000_000_000 → nat_abs t ≤ 2_000_000_000_000_000_000 → r ≡ x → s ≡ y → t ≡ z
    → pos n ≡ (to_z w64 (of_z w64 r) -ℤ to_z w64 (of_z w64 s)) +ℤ (to_z w64 (of_z w64 t) -ℤ to_z w64 (of_z w64 s)) → pos n ≡ (x -ℤ y) +ℤ (z -ℤ y)
length_is n r s t x y z h k m e f g i = omega (arith, ints)

-- a test that holds, and one that fails
pub le_is : (r s x y : ℤ) → nat_abs r ≤ 2_000_000_000_000_000_000 → nat_abs s ≤ 2_000_000_000_000_000_000 → r ≡ x → s ≡ y → le_z (to_z w64 (of_z w64 r)) (to_z w64 (of_z w64 s)) ≡ true → x ≤ℤ y
le_is r s x y h k e f g = omega (arith, ints)

pub ge_is : (r s x y : ℤ) → nat_abs r ≤ 2_000_000_000_000_000_000 → nat_abs s ≤ 2_000_000_000_000_000_000 → r ≡ x → s ≡ y → le_z (to_z w64 (of_z w64 r)) (to_z w64 (of_z w64 s)) ≡ false → y ≤ℤ x
ge_is r s x y h k e f g = omega (arith, ints)

-- what is at most a squared size
pub least_size : (n : ℕ) (r x : ℤ) → nat_abs r ≤ 2_000_000_000_000_000_000 → r ≡ x → pos n ≤ℤ x → n ≤ 2_000_000_000_000_000_000
least_size n r x h e l = omega (arith, ints)
