-- The greatest of numbers in order are in order, and how far a frame is past its numbers.
use Rattle.std.proofs.Common.{◌≡◌, ◌⊎◌, ℕ, arith, ap, sym, refl, subst, List, [], ◌∷◌, inl, inr}
use Rattle.std.specs.Int.{int_max}
use Rattle.std.proofs.lemmas.Int.{ints, clamps}
use lib.IntN.{ℤ, pos, ◌+ℤ◌, ◌*ℤ◌}
use lib.Signed.{◌≤ℤ◌}
use Rattle.spot_terms.specs.Frames.{number, IsFrameInOrder}
use Rattle.spot_terms.proofs.Products.{scaled_order}
use Rattle.spot_terms.specs.CellNumbers.{greater}
use Rattle.spot_terms.proofs.Orders.{greater_is_one}

scaled_max : (k : ℕ) (a b : ℤ) → (pos k *ℤ int_max a b ≡ pos k *ℤ a) ⊎ (pos k *ℤ int_max a b ≡ pos k *ℤ b)
scaled_max k a b = elim (greater_is_one a b) [ inl e ↦ inl (ap (λ z. pos k *ℤ z) e) | inr e ↦ inr (ap (λ z. pos k *ℤ z) e) ]

at_least_first : (k : ℕ) (a b : ℤ) → (pos k *ℤ a) ≤ℤ (pos k *ℤ int_max a b)
at_least_first k a b = scaled_order k a (int_max a b) (omega (arith, ints, clamps))

at_least_second : (k : ℕ) (a b : ℤ) → (pos k *ℤ b) ≤ℤ (pos k *ℤ int_max a b)
at_least_second k a b = scaled_order k b (int_max a b) (omega (arith, ints, clamps))

-- k·f ≤ g + h, twice
left_scaled : (k : ℕ) (f f' g g' h h' : ℤ) → (pos k *ℤ f) ≤ℤ (g +ℤ h) → (pos k *ℤ f') ≤ℤ (g' +ℤ h') → (pos k *ℤ int_max f f') ≤ℤ (int_max g g' +ℤ int_max h h')
left_scaled k f f' g g' h h' p q = elim (scaled_max k f f') [
  | inl e ↦ first (pos k *ℤ int_max f f') (pos k *ℤ f) f g g' h h' e p
  | inr e ↦ second (pos k *ℤ int_max f f') (pos k *ℤ f') f g g' h h' e q
]
  where
    first : (z y x g g' h h' : ℤ) → z ≡ y → y ≤ℤ (g +ℤ h) → z ≤ℤ (int_max g g' +ℤ int_max h h')
    first z y x g g' h h' e p = omega (arith, ints, clamps)

    second : (z y x g g' h h' : ℤ) → z ≡ y → y ≤ℤ (g' +ℤ h') → z ≤ℤ (int_max g g' +ℤ int_max h h')
    second z y x g g' h h' e p = omega (arith, ints, clamps)

-- 2·f ≤ k·g + h, twice
right_scaled : (k : ℕ) (f f' g g' h h' : ℤ) → (pos 2 *ℤ f) ≤ℤ (pos k *ℤ g +ℤ h) → (pos 2 *ℤ f') ≤ℤ (pos k *ℤ g' +ℤ h') → (pos 2 *ℤ int_max f f') ≤ℤ (pos k *ℤ int_max g g' +ℤ int_max h h')
right_scaled k f f' g g' h h' p q = both f f' (pos k *ℤ g) (pos k *ℤ g') (pos k *ℤ int_max g g') h h' p q (at_least_first k g g') (at_least_second k g g')
  where
    both : (f f' g g' m h h' : ℤ) → (pos 2 *ℤ f) ≤ℤ (g +ℤ h) → (pos 2 *ℤ f') ≤ℤ (g' +ℤ h') → g ≤ℤ m → g' ≤ℤ m → (pos 2 *ℤ int_max f f') ≤ℤ (m +ℤ int_max h h')
    both f f' g g' m h h' p q a b = omega (arith, ints, clamps)

swap : (x y z : ℤ) → x ≤ℤ (y +ℤ z) → x ≤ℤ (z +ℤ y)
swap x y z h = omega (arith, ints)

plain : (f f' g g' h h' : ℤ) → f ≤ℤ (g +ℤ h) → f' ≤ℤ (g' +ℤ h') → int_max f f' ≤ℤ (int_max g g' +ℤ int_max h h')
plain f f' g g' h h' p q = omega (arith, ints, clamps)

room : (f f' g g' : ℤ) → pos 0 ≤ℤ (f +ℤ g) → pos 0 ≤ℤ (int_max f f' +ℤ int_max g g')
room f f' g g' p = omega (arith, ints, clamps)

pub greater_in_order : (k : ℕ) (a0 a1 a2 a3 a4 a5 a6 a7 b0 b1 b2 b3 b4 b5 b6 b7 : ℤ)
    → IsFrameInOrder (pos k) (a0 ∷ a1 ∷ a2 ∷ a3 ∷ a4 ∷ a5 ∷ a6 ∷ a7 ∷ []) → IsFrameInOrder (pos k) (b0 ∷ b1 ∷ b2 ∷ b3 ∷ b4 ∷ b5 ∷ b6 ∷ b7 ∷ [])
    → IsFrameInOrder (pos k) (greater (a0 ∷ a1 ∷ a2 ∷ a3 ∷ a4 ∷ a5 ∷ a6 ∷ a7 ∷ []) (b0 ∷ b1 ∷ b2 ∷ b3 ∷ b4 ∷ b5 ∷ b6 ∷ b7 ∷ []))
greater_in_order k a0 a1 a2 a3 a4 a5 a6 a7 b0 b1 b2 b3 b4 b5 b6 b7 a b = record {
  n0 = left_scaled k a0 b0 a7 b7 a1 b1 a.n0 b.n0;
  n1 = right_scaled k a1 b1 a0 b0 a2 b2 a.n1 b.n1;
  n2 = plain a2 b2 a1 b1 a3 b3 a.n2 b.n2;
  n3 = swap (pos 2 *ℤ int_max a3 b3) (pos k *ℤ int_max a4 b4) (int_max a2 b2) (right_scaled k a3 b3 a4 b4 a2 b2 (swap (pos 2 *ℤ a3) a2 (pos k *ℤ a4) a.n3) (swap (pos 2 *ℤ b3) b2 (pos k *ℤ b4) b.n3));
  n4 = left_scaled k a4 b4 a3 b3 a5 b5 a.n4 b.n4;
  n5 = right_scaled k a5 b5 a4 b4 a6 b6 a.n5 b.n5;
  n6 = plain a6 b6 a5 b5 a7 b7 a.n6 b.n6;
  n7 = swap (pos 2 *ℤ int_max a7 b7) (pos k *ℤ int_max a0 b0) (int_max a6 b6) (right_scaled k a7 b7 a0 b0 a6 b6 (swap (pos 2 *ℤ a7) a6 (pos k *ℤ a0) a.n7) (swap (pos 2 *ℤ b7) b6 (pos k *ℤ b0) b.n7));
  n04 = room a0 b0 a4 b4 a.n04;
  n15 = room a1 b1 a5 b5 a.n15;
  n26 = room a2 b2 a6 b6 a.n26;
  n37 = room a3 b3 a7 b7 a.n37;
}
