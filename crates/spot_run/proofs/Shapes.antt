-- What is drawn of the pieces of a step, one after another.
use Rattle.std.proofs.Common.{◌≡◌, ◌∙◌, ℕ, zero, suc, ◌+◌, ◌≤◌, List, [], ◌∷◌, ◌++◌, map, take, Option, Some, None, refl, sym, ap, ap₂, subst, arith, ℤ, pos, neg_ℤ, ◌-ℤ◌, nat_abs, to_z, of_z, w64}
use Rattle.std.proofs.lemmas.Int.{ints}
use Rattle.std.specs.List.{AllByRecursion}
use Rattle.std.specs.Prelude.{slice_get, option_map}
use Rattle.std.proofs.lemmas.List.{map-append}
use Rattle.spot_terms.specs.Drawings.{DrawnShape, shape_of}
use Rattle.spot_terms.specs.BaseSets.{Rect}
use Rattle.spot_terms.specs.Frames.{number}
use Rattle.spot_terms.specs.Pieces.{Piece}
use Rattle.spot_terms.specs.Whole.{SizeAtMost}
use Rattle.spot_terms.proofs.Unique.{some_injective}
use Rattle.lanelets.proofs.Places.{take_at}
use Rattle.svg_report.specs.Shapes.{IsNear}

-- one piece more
pub one_more : (pieces : List Piece) (p : ℕ) (drawn : List DrawnShape) (shape : DrawnShape) → drawn ≡ map shape_of (take p pieces) → option_map shape_of (slice_get pieces p) ≡ Some shape
    → drawn ++ shape ∷ [] ≡ map shape_of (take (p + 1) pieces)
one_more pieces p drawn shape before is = of (slice_get pieces p) refl is
  where
    of : (o : Option Piece) → slice_get pieces p ≡ o → option_map shape_of o ≡ Some shape → drawn ++ shape ∷ [] ≡ map shape_of (take (p + 1) pieces)
    of None e h = cc
    of (Some piece) e h =
        let same : shape ≡ shape_of piece = sym (some_injective (shape_of piece) shape h) in
        ap₂ (λ (xs : List DrawnShape) (x : DrawnShape). xs ++ x ∷ []) before same ∙ sym (map-append shape_of (take p pieces) (piece ∷ [])) ∙ ap (map shape_of) (sym (take_at pieces p (p + 1) piece refl e))

-- ---- the rectangle of an octagon's numbers

number_small : (ns : List ℤ) (k : ℕ) → AllByRecursion (SizeAtMost 100_000_000_000_000) ns → nat_abs (number ns k) ≤ 100_000_000_000_000
number_small [] zero h = omega (arith, ints)
number_small [] (suc k) h = omega (arith, ints)
number_small (x ∷ xs) zero h = h.0
number_small (x ∷ xs) (suc k) h = number_small xs k h.1

-- as the code reads a number, and its negative
read : (z : ℤ) → nat_abs z ≤ 100_000_000_000_000 → to_z w64 (of_z w64 z) ≡ z
read z h = omega (arith, ints)

turned : (z : ℤ) → nat_abs z ≤ 100_000_000_000_000 → to_z w64 (of_z w64 (pos 0 -ℤ to_z w64 (of_z w64 z))) ≡ neg_ℤ z
turned z h = omega (arith, ints)

negative_small : (z : ℤ) → nat_abs z ≤ 100_000_000_000_000 → nat_abs (neg_ℤ z) ≤ 100_000_000_000_000
negative_small z h = omega (arith, ints, h)

abbrev rect : ℤ → ℤ → ℤ → ℤ → Rect
rect a b c d = record { xlo = a; xhi = b; ylo = c; yhi = d }

same_rect : (a b c d e f g h : ℤ) → a ≡ e → b ≡ f → c ≡ g → d ≡ h → rect a b c d ≡ rect e f g h
same_rect a b c d e f g h p q r s = cc

module _ (ns : List ℤ) (small : AllByRecursion (SizeAtMost 100_000_000_000_000) ns) where
  -- its ends as they are defined
  abbrev pub ends : Rect
  ends = rect (neg_ℤ (number ns 4)) (number ns 0) (neg_ℤ (number ns 6)) (number ns 2)

  -- and as the code has them
  abbrev pub made : Rect
  made = rect (to_z w64 (of_z w64 (pos 0 -ℤ to_z w64 (of_z w64 (number ns 4))))) (to_z w64 (of_z w64 (number ns 0))) (to_z w64 (of_z w64 (pos 0 -ℤ to_z w64 (of_z w64 (number ns 6))))) (to_z w64 (of_z w64 (number ns 2)))

  pub made_is : made ≡ ends
  made_is = same_rect _ _ _ _ _ _ _ _ (turned (number ns 4) (number_small ns 4 small)) (read (number ns 0) (number_small ns 0 small)) (turned (number ns 6) (number_small ns 6 small)) (read (number ns 2) (number_small ns 2 small))

  ends_near : IsNear ends
  ends_near = record {
    xlo = negative_small (number ns 4) (number_small ns 4 small);
    xhi = number_small ns 0 small;
    ylo = negative_small (number ns 6) (number_small ns 6 small);
    yhi = number_small ns 2 small;
  }

  pub made_near : IsNear made
  made_near = subst IsNear (sym made_is) ends_near
