-- The rows of a box, as the code numbers them.
use Rattle.std.proofs.Common.{◌≡◌, ◌∙◌, ℕ, ◌<◌, ◌≤◌, arith, sym, ap, subst, w64, to_z, of_z, FitsSigned}
use Rattle.std.specs.Prelude.{nat_abs}
use Rattle.std.proofs.Math.Facts.{to_z_pos}
use Rattle.std.proofs.lemmas.Int.{ints, fits_signed_from_abs}
use lib.IntN.{ℤ, pos, ◌+ℤ◌}
use Rattle.convex_poly.proofs.Wide.{small_back}

abbrev pub read : ℤ → ℤ
read z = to_z w64 (of_z w64 z)

pub cast_back : (j : ℕ) → j ≤ 1_000_000_000 → to_z w64 j ≡ pos j
cast_back j h = to_z_pos w64 (omega (arith, h))

pub number_back : (first : ℤ) (j : ℕ) → nat_abs first ≤ 400_000_000 → j ≤ 1_000_000_000 → read (read first +ℤ to_z w64 j) ≡ first +ℤ pos j
number_back first j h k =
    ap (λ (z : ℤ). read (z +ℤ to_z w64 j)) (small_back first (omega (arith, h))) ∙ ap (λ (z : ℤ). read (first +ℤ z)) (cast_back j k) ∙ small_back (first +ℤ pos j) (size first j h k)
  where
    size : (first : ℤ) (j : ℕ) → nat_abs first ≤ 400_000_000 → j ≤ 1_000_000_000 → nat_abs (first +ℤ pos j) ≤ 9_000_000_000_000_000_000
    size first j h k = omega (arith, ints, h, k)

pub number_fits : (first : ℤ) (j : ℕ) → nat_abs first ≤ 400_000_000 → j ≤ 1_000_000_000 → FitsSigned w64 (read first +ℤ to_z w64 j)
number_fits first j h k =
    subst (λ (z : ℤ). FitsSigned w64 z) (sym (ap (λ (z : ℤ). z +ℤ to_z w64 j) (small_back first (omega (arith, h))) ∙ ap (λ (z : ℤ). first +ℤ z) (cast_back j k))) (fits_signed_from_abs w64 (first +ℤ pos j) (size first j h k))
  where
    size : (first : ℤ) (j : ℕ) → nat_abs first ≤ 400_000_000 → j ≤ 1_000_000_000 → nat_abs (first +ℤ pos j) < 9_223_372_036_854_775_808
    size first j h k = omega (arith, ints, h, k)
