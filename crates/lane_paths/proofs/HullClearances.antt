-- Where the segments between two points of a list stay off 0, so does their hull, or 0 is in it.
use Rattle.std.proofs.Common.{◌≡◌, ℕ, ◌<◌, arith, refl, subst, List, [], ◌∷◌, ◌⊎◌, inl, inr}
use Rattle.std.proofs.lemmas.Int.{ints}
use lib.IntN.{ℤ, pos, ◌+ℤ◌, ◌-ℤ◌, ◌*ℤ◌}
use lib.Signed.{◌≤ℤ◌, ◌<ℤ◌}
use Rattle.spot_terms.specs.declared.plain.Pt.{Pt}
use Rattle.spot_terms.specs.Hull.{weighted}
use Rattle.spot_terms.specs.Lists.{Includes}
use Rattle.spot_terms.proofs.Mixes.{total, Mix}
use Rattle.spot_terms.proofs.Ring.{ring, var, ◌⊕◌, ◌⊖◌, ◌⊗◌}
use Rattle.spot_terms.proofs.Orders.{product_not_negative, factor_not_negative, square_positive, at_most_of_difference, difference_not_negative}
use Rattle.convex_poly.proofs.Rays.{Short, ray}
use Rattle.convex_poly.proofs.Ways.{Meets0}
use Rattle.lane_paths.specs.Clearances.{norm, StaysOff}
use Rattle.lane_paths.proofs.Signs.{add_ok, square_order}

-- a point that comes to such a segment stays off 0 as far
short_off : (vs : List Pt) (W X Y : ℤ) (n : ℕ) → pos 0 ≤ℤ W → ((u v : Pt) → Includes vs u → Includes vs v → StaysOff u v n) → Short vs W X Y → (pos n *ℤ (W *ℤ W)) ≤ℤ norm X Y
short_off vs W X Y n hW off s =
    let o : (pos n *ℤ ((s.a +ℤ s.b) *ℤ (s.a +ℤ s.b))) ≤ℤ norm ((s.a *ℤ s.u.x) +ℤ (s.b *ℤ s.v.x)) ((s.a *ℤ s.u.y) +ℤ (s.b *ℤ s.v.y)) = off s.u s.v s.u_in s.v_in s.a s.b s.a_ok s.b_ok in
    let scaled : (pos n *ℤ ((s.a +ℤ s.b) *ℤ (s.a +ℤ s.b))) ≤ℤ norm (s.k *ℤ X) (s.k *ℤ Y)
    = subst (λ z. (pos n *ℤ ((s.a +ℤ s.b) *ℤ (s.a +ℤ s.b))) ≤ℤ norm (s.k *ℤ X) z) s.y
    (subst (λ z. (pos n *ℤ ((s.a +ℤ s.b) *ℤ (s.a +ℤ s.b))) ≤ℤ norm z ((s.a *ℤ s.u.y) +ℤ (s.b *ℤ s.v.y))) s.x o) in
    finish W X Y (pos n) s.k (s.a +ℤ s.b) (omega (arith, ints)) s.k_ok hW s.far scaled
  where
    finish : (W X Y N k t : ℤ) → pos 0 ≤ℤ N → pos 0 <ℤ k → pos 0 ≤ℤ W → (k *ℤ W) ≤ℤ t → (N *ℤ (t *ℤ t)) ≤ℤ norm (k *ℤ X) (k *ℤ Y) → (N *ℤ (W *ℤ W)) ≤ℤ norm X Y
    finish W X Y N k t hN hk hW f o =
        let wider : pos 0 ≤ℤ (N *ℤ ((t *ℤ t) -ℤ ((k *ℤ W) *ℤ (k *ℤ W)))) = product_not_negative N ((t *ℤ t) -ℤ ((k *ℤ W) *ℤ (k *ℤ W))) hN
        (square_order (k *ℤ W) t (product_not_negative k W (omega (arith, ints)) hW) f) in
        let spread : N *ℤ ((t *ℤ t) -ℤ ((k *ℤ W) *ℤ (k *ℤ W))) ≡ (N *ℤ (t *ℤ t)) -ℤ ((k *ℤ k) *ℤ (N *ℤ (W *ℤ W)))
        = ring (N ∷ t ∷ k ∷ W ∷ []) (var 0 ⊗ ((var 1 ⊗ var 1) ⊖ ((var 2 ⊗ var 3) ⊗ (var 2 ⊗ var 3)))) ((var 0 ⊗ (var 1 ⊗ var 1)) ⊖ ((var 2 ⊗ var 2) ⊗ (var 0 ⊗ (var 3 ⊗ var 3)))) refl in
        let out : norm (k *ℤ X) (k *ℤ Y) ≡ (k *ℤ k) *ℤ norm X Y
        = ring (k ∷ X ∷ Y ∷ []) (((var 0 ⊗ var 1) ⊗ (var 0 ⊗ var 1)) ⊕ ((var 0 ⊗ var 2) ⊗ (var 0 ⊗ var 2))) ((var 0 ⊗ var 0) ⊗ ((var 1 ⊗ var 1) ⊕ (var 2 ⊗ var 2))) refl in
        let both : pos 0 ≤ℤ (((k *ℤ k) *ℤ norm X Y) -ℤ ((k *ℤ k) *ℤ (N *ℤ (W *ℤ W))))
        = add_ok ((k *ℤ k) *ℤ (N *ℤ (W *ℤ W))) (N *ℤ (t *ℤ t)) ((k *ℤ k) *ℤ norm X Y) (subst (λ z. pos 0 ≤ℤ z) spread wider) (subst (λ z. pos 0 ≤ℤ (z -ℤ (N *ℤ (t *ℤ t)))) out (difference_not_negative _ _ o)) in
        let common : ((k *ℤ k) *ℤ norm X Y) -ℤ ((k *ℤ k) *ℤ (N *ℤ (W *ℤ W))) ≡ (k *ℤ k) *ℤ (norm X Y -ℤ (N *ℤ (W *ℤ W)))
        = ring (k ∷ X ∷ Y ∷ N ∷ W ∷ []) (((var 0 ⊗ var 0) ⊗ ((var 1 ⊗ var 1) ⊕ (var 2 ⊗ var 2))) ⊖ ((var 0 ⊗ var 0) ⊗ (var 3 ⊗ (var 4 ⊗ var 4))))
        ((var 0 ⊗ var 0) ⊗ (((var 1 ⊗ var 1) ⊕ (var 2 ⊗ var 2)) ⊖ (var 3 ⊗ (var 4 ⊗ var 4)))) refl in
        at_most_of_difference _ _ (factor_not_negative (k *ℤ k) (norm X Y -ℤ (N *ℤ (W *ℤ W))) (square_positive k hk) (subst (λ z. pos 0 ≤ℤ z) common both))

-- the same for equal weights and sums
moved : (n V W : ℕ) (P X Q Y : ℤ) → V ≡ W → P ≡ X → Q ≡ Y → (pos n *ℤ (pos V *ℤ pos V)) ≤ℤ norm P Q → (pos n *ℤ (pos W *ℤ pos W)) ≤ℤ norm X Y
moved n V W P X Q Y e f g k =
    subst (λ (z : ℤ). (pos n *ℤ (pos W *ℤ pos W)) ≤ℤ norm X z) g
    (subst (λ (z : ℤ). (pos n *ℤ (pos W *ℤ pos W)) ≤ℤ norm z Q) f
    (subst (λ (m : ℕ). (pos n *ℤ (pos m *ℤ pos m)) ≤ℤ norm P Q) e k))

-- where the segments stay off by n, so does the hull, or 0 is in it
pub hull_off : (vs : List Pt) (W : ℕ) (X Y : ℤ) (n : ℕ) → 0 < W → ((u v : Pt) → Includes vs u → Includes vs v → StaysOff u v n) → Mix vs W X Y
    → ((pos n *ℤ (pos W *ℤ pos W)) ≤ℤ norm X Y) ⊎ Meets0 vs
hull_off vs W X Y n h off m =
    elim (ray m.weights vs (omega (arith, m.at_w))) [
      | inl s ↦ inl (moved n (total m.weights vs) W (weighted (λ v. v.x) m.weights vs) X (weighted (λ v. v.y) m.weights vs) Y m.at_w m.at_x m.at_y
          (short_off vs (pos (total m.weights vs)) (weighted (λ v. v.x) m.weights vs) (weighted (λ v. v.y) m.weights vs) n (omega (arith, ints)) off s))
      | inr z ↦ inr z
    ]
