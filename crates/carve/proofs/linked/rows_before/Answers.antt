use Rattle.std.proofs.Common.{rules, ◌≡◌, ◌∙◌, ◌≤◌, ℤ, pos, ◌+ℤ◌, ◌-ℤ◌, ◌≤ℤ◌, arith, ap, sym, to_z, of_z, to_z-of_z, FitsSigned, w64}
use Rattle.std.specs.Prelude.{nat_abs}
use Rattle.std.specs.Int.{int_max}
use Rattle.std.proofs.lemmas.Int.{ints, clamps}
use Rattle.spot_terms.specs.Grid.{slot}
use Rattle.spot_terms.specs.Whole.{SizeAtMost}
use Rattle.carve.proofs.Shared.{max_small}
use Rattle.carve.proofs.RowPlaces.{fits_place}
use Rattle.carve.proofs.linked.rows_before.Goals as goal

sub_fits : (m b : ℤ) → SizeAtMost 100_000_000_000_000 m → SizeAtMost 100_000_000_000_000 b → FitsSigned w64 (m -ℤ b)
sub_fits m b h k = omega (arith, ints, h, k)

few : (m b : ℤ) → SizeAtMost 100_000_000_000_000 m → SizeAtMost 100_000_000_000_000 b → nat_abs (m -ℤ b) ≤ 1_000_000_000_000_000
few m b h k = omega (arith, ints, h, k)

not_less : (m a b : ℤ) → m ≡ int_max a b → b ≤ℤ m
not_less m a b e = omega (arith, ints, clamps, e)

whole : (m b : ℤ) → b ≤ℤ m → b +ℤ pos (nat_abs (m -ℤ b)) ≡ m
whole m b h = omega (arith, ints, h)

pub overflow_sub-result : goal.overflow_sub-result
overflow_sub-result c =
    let a : FitsSigned w64 c.row_of.result = record { sfits = c.row_of.type_inv } in
    let b : FitsSigned w64 c.row_of-first.result = record { sfits = c.row_of-first.type_inv } in
    let m : FitsSigned w64 c.greater.result = record { sfits = c.greater.type_inv } in
    let max : c.greater.result ≡ int_max c.row_of.result c.row_of-first.result = simp to_z-of_z at c.greater.ensures in
    simp to_z-of_z (sub_fits c.greater.result c.row_of-first.result (max_small c.greater.result c.row_of.result c.row_of-first.result max c.row_of.ensures.small c.row_of-first.ensures.small) c.row_of-first.ensures.small)

pub overflow_cast-result : goal.overflow_cast-result
overflow_cast-result c =
    let a : FitsSigned w64 c.row_of.result = record { sfits = c.row_of.type_inv } in
    let b : FitsSigned w64 c.row_of-first.result = record { sfits = c.row_of-first.type_inv } in
    let m : FitsSigned w64 c.greater.result = record { sfits = c.greater.type_inv } in
    let max : c.greater.result ≡ int_max c.row_of.result c.row_of-first.result = simp to_z-of_z at c.greater.ensures in
    let small = max_small c.greater.result c.row_of.result c.row_of-first.result max c.row_of.ensures.small c.row_of-first.ensures.small in
    let fits : FitsSigned w64 (c.greater.result -ℤ c.row_of-first.result) = sub_fits c.greater.result c.row_of-first.result small c.row_of-first.ensures.small in
    let less = not_less c.greater.result c.row_of.result c.row_of-first.result max in
    let size = few c.greater.result c.row_of-first.result small c.row_of-first.ensures.small in
    simp to_z-of_z (omega (arith, ints, less), omega (arith, ints, size))

pub returns-clause-value : goal.returns-clause-value
returns-clause-value c =
    let fits_low : FitsSigned w64 c.args.low = c.ranges.low in
    let fits_g : FitsSigned w64 c.args.g = c.ranges.g in
    let fits_ylo : FitsSigned w64 c.args.b.now.ylo = fits_place _ c.requires.reach.ylo in
    let a : FitsSigned w64 c.row_of.result = record { sfits = c.row_of.type_inv } in
    let b : FitsSigned w64 c.row_of-first.result = record { sfits = c.row_of-first.type_inv } in
    let m : FitsSigned w64 c.greater.result = record { sfits = c.greater.type_inv } in
    let max : c.greater.result ≡ int_max c.row_of.result c.row_of-first.result = simp to_z-of_z at c.greater.ensures in
    let small = max_small c.greater.result c.row_of.result c.row_of-first.result max c.row_of.ensures.small c.row_of-first.ensures.small in
    let fits : FitsSigned w64 (c.greater.result -ℤ c.row_of-first.result) = sub_fits c.greater.result c.row_of-first.result small c.row_of-first.ensures.small in
    let low : c.row_of.result ≡ slot c.args.g c.args.low = simp to_z-of_z at c.row_of.ensures.value in
    let first : c.row_of-first.result ≡ slot c.args.g c.args.b.now.ylo = simp to_z-of_z at c.row_of-first.ensures.value in
    let is = whole c.greater.result c.row_of-first.result (not_less c.greater.result c.row_of.result c.row_of-first.result max) in
    simp to_z-of_z (told (slot c.args.g c.args.b.now.ylo) (slot c.args.g c.args.low) c.row_of-first.result c.row_of.result c.greater.result first low max is)
  where
    told : (b a p q m : ℤ) → p ≡ b → q ≡ a → m ≡ int_max q p → p +ℤ pos (nat_abs (m -ℤ p)) ≡ m → b +ℤ pos (nat_abs (m -ℤ p)) ≡ int_max a b
    told b a p q m e f h k = ap (λ (z : ℤ). z +ℤ pos (nat_abs (m -ℤ p))) (sym e) ∙ k ∙ h ∙ ap (λ (z : ℤ). int_max z p) f ∙ ap (λ (z : ℤ). int_max a z) e

pub returns-clause-few : goal.returns-clause-few
returns-clause-few c =
    let a : FitsSigned w64 c.row_of.result = record { sfits = c.row_of.type_inv } in
    let b : FitsSigned w64 c.row_of-first.result = record { sfits = c.row_of-first.type_inv } in
    let m : FitsSigned w64 c.greater.result = record { sfits = c.greater.type_inv } in
    let max : c.greater.result ≡ int_max c.row_of.result c.row_of-first.result = simp to_z-of_z at c.greater.ensures in
    let small = max_small c.greater.result c.row_of.result c.row_of-first.result max c.row_of.ensures.small c.row_of-first.ensures.small in
    let fits : FitsSigned w64 (c.greater.result -ℤ c.row_of-first.result) = sub_fits c.greater.result c.row_of-first.result small c.row_of-first.ensures.small in
    simp to_z-of_z (few c.greater.result c.row_of-first.result small c.row_of-first.ensures.small)
