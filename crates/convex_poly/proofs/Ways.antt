-- Relations of three ways, and 0 in the hull of some points.
use Rattle.std.proofs.Common.{◌≡◌, ℕ, zero, suc, ◌+◌, ◌*◌, ◌<◌, arith, refl, ap, ◌∙◌, List, [], ◌∷◌}
use Rattle.std.proofs.lemmas.Int.{ints}
use Rattle.std.specs.Prelude.{nat_abs}
use lib.IntN.{ℤ, pos, negsuc, ◌+ℤ◌, ◌-ℤ◌, ◌*ℤ◌}
use lib.Signed.{◌≤ℤ◌, ◌<ℤ◌}
use Rattle.spot_terms.specs.declared.plain.Pt.{Pt}
use Rattle.spot_terms.specs.Lists.{Includes}
use Rattle.spot_terms.proofs.Products.{square_not_negative}
use Rattle.convex_poly.specs.Vectors.{turn_of, inner_product}
use Rattle.spot_terms.proofs.Ring.{ring, var, num, ◌⊕◌, ◌⊖◌, ◌⊗◌}
use Rattle.spot_terms.proofs.Mixes.{Mix, mix_add, mix_scale, mix_to, mix_included}
use Rattle.spot_terms.proofs.Orders.{times_zero}

-- 0 is in the hull
pub record Meets0 (vs : List Pt) : Type 0 where
  pub n : ℕ
  pub some : 0 < n
  pub mix : Mix vs n (pos 0) (pos 0)

-- a sum of three ways that is 0
pub record Rel (u v r : Pt) (A B C : ℤ) : Type 0 where
  pub x : ((A *ℤ u.x) +ℤ (B *ℤ v.x)) +ℤ (C *ℤ r.x) ≡ pos 0
  pub y : ((A *ℤ u.y) +ℤ (B *ℤ v.y)) +ℤ (C *ℤ r.y) ≡ pos 0

pub mix_z : (vs : List Pt) (u : Pt) (a : ℤ) → Includes vs u → pos 0 ≤ℤ a → Mix vs (nat_abs a) (a *ℤ u.x) (a *ℤ u.y)
mix_z vs u (pos n) i h = mix_to vs (n * 1) n _ _ _ _ (omega arith) refl refl (mix_scale vs n 1 _ _ (mix_included vs u i))
mix_z vs u (negsuc n) i h = absurd (omega (arith, ints))

pub meets_of : (vs : List Pt) (u v r : Pt) (A B C : ℤ) → Includes vs u → Includes vs v → Includes vs r → Rel u v r A B C → pos 0 ≤ℤ A → pos 0 ≤ℤ B → pos 0 ≤ℤ C → pos 0 <ℤ ((A +ℤ B) +ℤ C) → Meets0 vs
meets_of vs u v r A B C iu iv ir e ha hb hc s = record {
  n = (nat_abs A + nat_abs B) + nat_abs C;
  some = omega (arith, ints);
  mix = mix_to vs _ _ _ _ _ _ refl e.x e.y (mix_add vs _ _ _ _ _ _ (mix_add vs _ _ _ _ _ _ (mix_z vs u A iu ha) (mix_z vs v B iv hb)) (mix_z vs r C ir hc));
}

pub rel_line : (A B C u v r : ℤ) → ((A *ℤ u) +ℤ (B *ℤ v)) +ℤ (C *ℤ r) ≡ pos 0 → (((pos 0 -ℤ A) *ℤ u) +ℤ ((pos 0 -ℤ B) *ℤ v)) +ℤ ((pos 0 -ℤ C) *ℤ r) ≡ pos 0
rel_line A B C u v r h =
    ring (A ∷ B ∷ C ∷ u ∷ v ∷ r ∷ []) ((((num (pos 0) ⊖ var 0) ⊗ var 3) ⊕ ((num (pos 0) ⊖ var 1) ⊗ var 4)) ⊕ ((num (pos 0) ⊖ var 2) ⊗ var 5))
    (num (pos 0) ⊖ (((var 0 ⊗ var 3) ⊕ (var 1 ⊗ var 4)) ⊕ (var 2 ⊗ var 5))) refl
    ∙ ap (λ z. pos 0 -ℤ z) h

pub zero_part : (x y : ℤ) → (x *ℤ x) +ℤ (y *ℤ y) ≡ pos 0 → x ≡ pos 0
zero_part (pos zero) y h = refl
zero_part (pos (suc n)) y h = absurd (omega (arith, ints, square_not_negative y, h))
zero_part (negsuc n) y h = absurd (omega (arith, ints, square_not_negative y, h))

pub turns_rel : (u v r : Pt) → Rel u v r (turn_of v r) (turn_of r u) (turn_of u v)
turns_rel u v r = record {
  x = ring (u.x ∷ u.y ∷ v.x ∷ v.y ∷ r.x ∷ r.y ∷ [])
      (((((var 2 ⊗ var 5) ⊖ (var 3 ⊗ var 4)) ⊗ var 0) ⊕ (((var 4 ⊗ var 1) ⊖ (var 5 ⊗ var 0)) ⊗ var 2)) ⊕ (((var 0 ⊗ var 3) ⊖ (var 1 ⊗ var 2)) ⊗ var 4)) (num (pos 0)) refl;
  y = ring (u.x ∷ u.y ∷ v.x ∷ v.y ∷ r.x ∷ r.y ∷ [])
      (((((var 2 ⊗ var 5) ⊖ (var 3 ⊗ var 4)) ⊗ var 1) ⊕ (((var 4 ⊗ var 1) ⊖ (var 5 ⊗ var 0)) ⊗ var 3)) ⊕ (((var 0 ⊗ var 3) ⊖ (var 1 ⊗ var 2)) ⊗ var 5)) (num (pos 0)) refl;
}

pub flat_rel : (u v r : Pt) → turn_of u v ≡ pos 0 → Rel u v r (inner_product u v) (pos 0 -ℤ inner_product u u) (pos 0)
flat_rel u v r h = record {
  x = ring (u.x ∷ u.y ∷ v.x ∷ v.y ∷ r.x ∷ [])
      ((((((var 0 ⊗ var 2) ⊕ (var 1 ⊗ var 3)) ⊗ var 0) ⊕ ((num (pos 0) ⊖ ((var 0 ⊗ var 0) ⊕ (var 1 ⊗ var 1))) ⊗ var 2)) ⊕ (num (pos 0) ⊗ var 4)))
      (var 1 ⊗ ((var 0 ⊗ var 3) ⊖ (var 1 ⊗ var 2))) refl
      ∙ ap (λ z. u.y *ℤ z) h ∙ times_zero u.y;
  y = ring (u.x ∷ u.y ∷ v.x ∷ v.y ∷ r.y ∷ [])
      ((((((var 0 ⊗ var 2) ⊕ (var 1 ⊗ var 3)) ⊗ var 1) ⊕ ((num (pos 0) ⊖ ((var 0 ⊗ var 0) ⊕ (var 1 ⊗ var 1))) ⊗ var 3)) ⊕ (num (pos 0) ⊗ var 4)))
      ((num (pos 0) ⊖ var 0) ⊗ ((var 0 ⊗ var 3) ⊖ (var 1 ⊗ var 2))) refl
      ∙ ap (λ z. (pos 0 -ℤ u.x) *ℤ z) h ∙ times_zero (pos 0 -ℤ u.x);
}
