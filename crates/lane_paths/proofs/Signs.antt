-- Signs of products and squares.
use Rattle.std.proofs.Common.{refl, subst, [], ◌∷◌}
use Rattle.std.proofs.lemmas.Int.{ints}
use Rattle.std.proofs.Common.{arith}
use lib.IntN.{ℤ, pos, ◌+ℤ◌, ◌-ℤ◌, ◌*ℤ◌}
use lib.Signed.{◌≤ℤ◌}
use Rattle.spot_terms.proofs.Ring.{ring, var, ◌⊕◌, ◌⊖◌, ◌⊗◌}
use Rattle.spot_terms.proofs.Orders.{product_not_negative}

-- two orders in a row, as differences
pub add_ok : (s t r : ℤ) → pos 0 ≤ℤ (t -ℤ s) → pos 0 ≤ℤ (r -ℤ t) → pos 0 ≤ℤ (r -ℤ s)
add_ok s t r h k = omega (arith, ints)

-- squares keep the order of numbers that aren't negative
pub square_order : (s t : ℤ) → pos 0 ≤ℤ s → s ≤ℤ t → pos 0 ≤ℤ ((t *ℤ t) -ℤ (s *ℤ s))
square_order s t h k =
    subst (λ z. pos 0 ≤ℤ z) (ring (s ∷ t ∷ []) ((var 1 ⊖ var 0) ⊗ (var 1 ⊕ var 0)) ((var 1 ⊗ var 1) ⊖ (var 0 ⊗ var 0)) refl)
    (product_not_negative (t -ℤ s) (t +ℤ s) (omega (arith, ints)) (omega (arith, ints)))
