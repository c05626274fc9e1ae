-- A point of a hull, moved towards 0, comes to a segment between two points of the list, or 0 is in the hull.
use Rattle.std.proofs.Common.{◌≡◌, ℕ, zero, suc, ◌+◌, ◌<◌, arith, refl, sym, ap, ◌∙◌, subst, List, [], ◌∷◌, ◌⊎◌, inl, inr}
use Rattle.std.proofs.lemmas.Int.{ints, by_lt_z}
use lib.IntN.{ℤ, pos, ◌+ℤ◌, ◌-ℤ◌, ◌*ℤ◌}
use lib.Signed.{◌≤ℤ◌, ◌<ℤ◌}
use Rattle.spot_terms.specs.declared.plain.Pt.{Pt}
use Rattle.spot_terms.specs.Hull.{weighted}
use Rattle.spot_terms.specs.Lists.{Includes}
use Rattle.spot_terms.proofs.Ring.{ring, var, num, ◌⊕◌, ◌⊖◌, ◌⊗◌}
use Rattle.spot_terms.proofs.Mixes.{total, mix_more, mix_to, mix_included, no_total}
use Rattle.spot_terms.proofs.Orders.{opposite_positive, opposite_times, opposites_times, zero_of_opposite, product_not_negative, is_zero, positive_not_negative, product_positive, opposite_clash, sum_swap}
use Rattle.convex_poly.specs.Vectors.{turn_of, inner_product}
use Rattle.convex_poly.proofs.Ways.{Meets0, Rel, meets_of, rel_line, zero_part, turns_rel, flat_rel}

-- (X, Y) / W, moved towards 0, is on the segment between two points of the list
pub record Short (vs : List Pt) (W X Y : ℤ) : Type 0 where
  pub u : Pt
  pub v : Pt
  pub a : ℤ
  pub b : ℤ
  pub k : ℤ
  pub u_in : Includes vs u
  pub v_in : Includes vs v
  pub a_ok : pos 0 ≤ℤ a
  pub b_ok : pos 0 ≤ℤ b
  pub k_ok : pos 0 <ℤ k
  pub x : (a *ℤ u.x) +ℤ (b *ℤ v.x) ≡ k *ℤ X
  pub y : (a *ℤ u.y) +ℤ (b *ℤ v.y) ≡ k *ℤ Y
  pub far : (k *ℤ W) ≤ℤ (a +ℤ b)

-- ---- three ways

-- a weighted sum of three ways that is K times (X, Y), with weights of at least K W
record Sum3 (u v r : Pt) (a b c K W X Y : ℤ) : Type 0 where
  a_ok : pos 0 ≤ℤ a
  b_ok : pos 0 ≤ℤ b
  c_ok : pos 0 ≤ℤ c
  k_ok : pos 0 <ℤ K
  x : ((a *ℤ u.x) +ℤ (b *ℤ v.x)) +ℤ (c *ℤ r.x) ≡ K *ℤ X
  y : ((a *ℤ u.y) +ℤ (b *ℤ v.y)) +ℤ (c *ℤ r.y) ≡ K *ℤ Y
  far : (K *ℤ W) ≤ℤ ((a +ℤ b) +ℤ c)

-- the three in another order
rel_swap : (u v r : Pt) (A B C : ℤ) → Rel u v r A B C → Rel v u r B A C
rel_swap u v r A B C h = record { x = omega (arith, ints, h.x); y = omega (arith, ints, h.y) }

rel_turn : (u v r : Pt) (A B C : ℤ) → Rel u v r A B C → Rel r u v C A B
rel_turn u v r A B C h = record { x = omega (arith, ints, h.x); y = omega (arith, ints, h.y) }

sum3_swap : (u v r : Pt) (a b c K W X Y : ℤ) → Sum3 u v r a b c K W X Y → Sum3 v u r b a c K W X Y
sum3_swap u v r a b c K W X Y h = record {
  a_ok = h.b_ok;
  b_ok = h.a_ok;
  c_ok = h.c_ok;
  k_ok = h.k_ok;
  x = omega (arith, ints, h.x);
  y = omega (arith, ints, h.y);
  far = omega (arith, ints, h.far);
}

sum_turn : (u v r : Pt) (a b c K W X Y : ℤ) → Sum3 u v r a b c K W X Y → Sum3 r u v c a b K W X Y
sum_turn u v r a b c K W X Y h = record {
  a_ok = h.c_ok;
  b_ok = h.a_ok;
  c_ok = h.b_ok;
  k_ok = h.k_ok;
  x = omega (arith, ints, h.x);
  y = omega (arith, ints, h.y);
  far = omega (arith, ints, h.far);
}

-- ---- dropping one of the three

abbrev det : ℤ → ℤ → ℤ → ℤ → ℤ
det x X y Y = (x *ℤ Y) -ℤ (X *ℤ y)

-- without the first of the three: the sum of the other two
drop_line : (a A b B c C u v r K X : ℤ) → ((A *ℤ u) +ℤ (B *ℤ v)) +ℤ (C *ℤ r) ≡ pos 0 → ((a *ℤ u) +ℤ (b *ℤ v)) +ℤ (c *ℤ r) ≡ K *ℤ X
    → (det a A b B *ℤ v) +ℤ (det a A c C *ℤ r) ≡ ((pos 0 -ℤ A) *ℤ K) *ℤ X
drop_line a A b B c C u v r K X h g =
    let i : (det a A b B *ℤ v) +ℤ (det a A c C *ℤ r) ≡ (a *ℤ (((A *ℤ u) +ℤ (B *ℤ v)) +ℤ (C *ℤ r))) -ℤ (A *ℤ (((a *ℤ u) +ℤ (b *ℤ v)) +ℤ (c *ℤ r)))
    = ring (a ∷ A ∷ b ∷ B ∷ c ∷ C ∷ u ∷ v ∷ r ∷ [])
    ((((var 0 ⊗ var 3) ⊖ (var 1 ⊗ var 2)) ⊗ var 7) ⊕ (((var 0 ⊗ var 5) ⊖ (var 1 ⊗ var 4)) ⊗ var 8))
    ((var 0 ⊗ (((var 1 ⊗ var 6) ⊕ (var 3 ⊗ var 7)) ⊕ (var 5 ⊗ var 8))) ⊖ (var 1 ⊗ (((var 0 ⊗ var 6) ⊕ (var 2 ⊗ var 7)) ⊕ (var 4 ⊗ var 8)))) refl in
    i ∙ ap (λ z. (a *ℤ z) -ℤ (A *ℤ (((a *ℤ u) +ℤ (b *ℤ v)) +ℤ (c *ℤ r)))) h
    ∙ ap (λ z. (a *ℤ pos 0) -ℤ (A *ℤ z)) g
    ∙ ring (a ∷ A ∷ K ∷ X ∷ []) ((var 0 ⊗ num (pos 0)) ⊖ (var 1 ⊗ (var 2 ⊗ var 3))) (((num (pos 0) ⊖ var 1) ⊗ var 2) ⊗ var 3) refl

-- and their weights
drop_far : (a A b B c C K W : ℤ) → pos 0 ≤ℤ a → A <ℤ pos 0 → pos 0 ≤ℤ ((A +ℤ B) +ℤ C) → (K *ℤ W) ≤ℤ ((a +ℤ b) +ℤ c)
    → (((pos 0 -ℤ A) *ℤ K) *ℤ W) ≤ℤ (det a A b B +ℤ det a A c C)
drop_far a A b B c C K W h n s f =
    let p : pos 0 ≤ℤ (a *ℤ ((A +ℤ B) +ℤ C)) = product_not_negative a ((A +ℤ B) +ℤ C) h s in
    let q : pos 0 ≤ℤ ((pos 0 -ℤ A) *ℤ (((a +ℤ b) +ℤ c) -ℤ (K *ℤ W))) = product_not_negative (pos 0 -ℤ A) (((a +ℤ b) +ℤ c) -ℤ (K *ℤ W)) (omega (arith, ints)) (omega (arith, ints)) in
    let i : (det a A b B +ℤ det a A c C) -ℤ (((pos 0 -ℤ A) *ℤ K) *ℤ W) ≡ (a *ℤ ((A +ℤ B) +ℤ C)) +ℤ ((pos 0 -ℤ A) *ℤ (((a +ℤ b) +ℤ c) -ℤ (K *ℤ W)))
    = ring (a ∷ A ∷ b ∷ B ∷ c ∷ C ∷ K ∷ W ∷ [])
    ((((var 0 ⊗ var 3) ⊖ (var 1 ⊗ var 2)) ⊕ ((var 0 ⊗ var 5) ⊖ (var 1 ⊗ var 4))) ⊖ (((num (pos 0) ⊖ var 1) ⊗ var 6) ⊗ var 7))
    ((var 0 ⊗ ((var 1 ⊕ var 3) ⊕ var 5)) ⊕ ((num (pos 0) ⊖ var 1) ⊗ (((var 0 ⊕ var 2) ⊕ var 4) ⊖ (var 6 ⊗ var 7)))) refl in
    close (det a A b B +ℤ det a A c C) (((pos 0 -ℤ A) *ℤ K) *ℤ W) (a *ℤ ((A +ℤ B) +ℤ C)) ((pos 0 -ℤ A) *ℤ (((a +ℤ b) +ℤ c) -ℤ (K *ℤ W))) i p q
  where
    close : (s t p q : ℤ) → s -ℤ t ≡ p +ℤ q → pos 0 ≤ℤ p → pos 0 ≤ℤ q → t ≤ℤ s
    close s t p q e h k = omega (arith, ints)

-- both together
drop_first : (vs : List Pt) (u v r : Pt) (A B C a b c K W X Y : ℤ) → Includes vs v → Includes vs r → Rel u v r A B C → Sum3 u v r a b c K W X Y
    → A <ℤ pos 0 → pos 0 ≤ℤ ((A +ℤ B) +ℤ C) → pos 0 ≤ℤ det a A b B → pos 0 ≤ℤ det a A c C → Short vs W X Y
drop_first vs u v r A B C a b c K W X Y i j e s n t db dc = record {
  u = v;
  v = r;
  a = det a A b B;
  b = det a A c C;
  k = (pos 0 -ℤ A) *ℤ K;
  u_in = i;
  v_in = j;
  a_ok = db;
  b_ok = dc;
  k_ok = product_positive (pos 0 -ℤ A) K (omega (arith, ints)) s.k_ok;
  x = drop_line a A b B c C u.x v.x r.x K X e.x s.x;
  y = drop_line a A b B c C u.y v.y r.y K Y e.y s.y;
  far = drop_far a A b B c C K W s.a_ok n t s.far;
}

-- ---- which of the three can be dropped

above_by : (Y d Z p X q : ℤ) → Y <ℤ pos 0 → Z <ℤ pos 0 → X <ℤ pos 0 → pos 0 <ℤ p → pos 0 ≤ℤ q → Y *ℤ d ≡ (Z *ℤ p) +ℤ (X *ℤ q) → pos 0 <ℤ d
above_by Y d Z p X q hy hz hx hp hq e =
    by_lt_z (pos 0) d (λ h. h) (λ h.
    let f : pos 0 ≤ℤ ((pos 0 -ℤ Y) *ℤ (pos 0 -ℤ d)) = product_not_negative (pos 0 -ℤ Y) (pos 0 -ℤ d) (omega (arith, ints)) (omega (arith, ints)) in
    let g : pos 0 <ℤ ((pos 0 -ℤ Z) *ℤ p) = product_positive (pos 0 -ℤ Z) p (omega (arith, ints)) hp in
    let k : pos 0 ≤ℤ ((pos 0 -ℤ X) *ℤ q) = product_not_negative (pos 0 -ℤ X) q (omega (arith, ints)) hq in
    absurd (clash (Y *ℤ d) (Z *ℤ p) (X *ℤ q) e (subst (λ z. pos 0 ≤ℤ z) (opposites_times Y d) f) (subst (λ z. pos 0 <ℤ z) (opposite_times Z p) g) (subst (λ z. pos 0 ≤ℤ z) (opposite_times X q) k)))
  where
    clash : (s t r : ℤ) → s ≡ t +ℤ r → pos 0 ≤ℤ s → pos 0 <ℤ (pos 0 -ℤ t) → pos 0 ≤ℤ (pos 0 -ℤ r) → ⊥
    clash s t r e h k m = omega (arith, ints)

-- how the three determinants hang together
det_chain : (x X y Y z Z : ℤ) → Y *ℤ det x X z Z ≡ (Z *ℤ det x X y Y) +ℤ (X *ℤ det y Y z Z)
det_chain x X y Y z Z =
    ring (x ∷ X ∷ y ∷ Y ∷ z ∷ Z ∷ []) (var 3 ⊗ ((var 0 ⊗ var 5) ⊖ (var 1 ⊗ var 4)))
    ((var 5 ⊗ ((var 0 ⊗ var 3) ⊖ (var 1 ⊗ var 2))) ⊕ (var 1 ⊗ ((var 2 ⊗ var 5) ⊖ (var 3 ⊗ var 4)))) refl

det_above : (x X y Y z Z : ℤ) → X <ℤ pos 0 → Y <ℤ pos 0 → Z <ℤ pos 0 → pos 0 <ℤ det x X y Y → pos 0 ≤ℤ det y Y z Z → pos 0 <ℤ det x X z Z
det_above x X y Y z Z hx hy hz h k = above_by Y (det x X z Z) Z (det x X y Y) X (det y Y z Z) hy hz hx h k (det_chain x X y Y z Z)

det_back : (x X y Y : ℤ) → det x X y Y <ℤ pos 0 → pos 0 <ℤ det y Y x X
det_back x X y Y h = subst (λ z. pos 0 <ℤ z) (ring (x ∷ X ∷ y ∷ Y ∷ []) (num (pos 0) ⊖ ((var 0 ⊗ var 3) ⊖ (var 1 ⊗ var 2))) ((var 2 ⊗ var 1) ⊖ (var 3 ⊗ var 0)) refl) (opposite_positive (det x X y Y) h)

clash0 : (x X y Y : ℤ) → pos 0 ≤ℤ det x X y Y → pos 0 <ℤ det y Y x X → ⊥
clash0 x X y Y h k = opposite_clash (det x X y Y) (det y Y x X) (ring (x ∷ X ∷ y ∷ Y ∷ []) ((var 0 ⊗ var 3) ⊖ (var 1 ⊗ var 2)) (num (pos 0) ⊖ ((var 2 ⊗ var 1) ⊖ (var 3 ⊗ var 0))) refl) h k

second_below : (x X y Y : ℤ) → pos 0 ≤ℤ x → X <ℤ pos 0 → pos 0 ≤ℤ y → det x X y Y <ℤ pos 0 → Y <ℤ pos 0
second_below x X y Y hx hX hy h =
    by_lt_z Y (pos 0) (λ k. k) (λ k.
    let f : pos 0 ≤ℤ (x *ℤ Y) = product_not_negative x Y hx k in
    let g : pos 0 ≤ℤ ((pos 0 -ℤ X) *ℤ y) = product_not_negative (pos 0 -ℤ X) y (omega (arith, ints)) hy in
    absurd (clash (x *ℤ Y) (X *ℤ y) f (subst (λ z. pos 0 ≤ℤ z) (opposite_times X y) g) h))
  where
    clash : (s t : ℤ) → pos 0 ≤ℤ s → pos 0 ≤ℤ (pos 0 -ℤ t) → (s -ℤ t) <ℤ pos 0 → ⊥
    clash s t h k m = omega (arith, ints)

total_swap : (A B C : ℤ) → pos 0 ≤ℤ ((A +ℤ B) +ℤ C) → pos 0 ≤ℤ ((B +ℤ A) +ℤ C)
total_swap A B C h = omega (arith, ints)

total_turn : (A B C : ℤ) → pos 0 ≤ℤ ((A +ℤ B) +ℤ C) → pos 0 ≤ℤ ((C +ℤ A) +ℤ B)
total_turn A B C h = omega (arith, ints)

-- a negative coefficient, and a sum that isn't negative: one of the three can be dropped
with_first : (vs : List Pt) (u v r : Pt) (A B C a b c K W X Y : ℤ) → Includes vs u → Includes vs v → Includes vs r → Rel u v r A B C → Sum3 u v r a b c K W X Y
    → A <ℤ pos 0 → pos 0 ≤ℤ ((A +ℤ B) +ℤ C) → Short vs W X Y
with_first vs u v r A B C a b c K W X Y iu iv ir e s n t =
    by_lt_z (det a A b B) (pos 0)
    (λ l. let nb : B <ℤ pos 0 = second_below a A b B s.a_ok n s.b_ok l in
    by_lt_z (det b B c C) (pos 0)
    (λ m. let nc : C <ℤ pos 0 = second_below b B c C s.b_ok nb s.c_ok m in
    drop_c nc (positive_not_negative _ (det_above c C b B a A nc nb n (det_back b B c C m) (positive_not_negative _ (det_back a A b B l)))) (positive_not_negative _ (det_back b B c C m)))
    (λ m. drop_b nb (positive_not_negative _ (det_back a A b B l)) m))
    (λ l. by_lt_z (det a A c C) (pos 0)
    (λ m. let nc : C <ℤ pos 0 = second_below a A c C s.a_ok n s.c_ok m in
    by_lt_z (det c C b B) (pos 0)
    (λ o. let nb : B <ℤ pos 0 = second_below c C b B s.c_ok nc s.b_ok o in
    absurd (clash0 a A b B l (det_above b B c C a A nb nc n (det_back c C b B o) (positive_not_negative _ (det_back a A c C m)))))
    (λ o. drop_c nc (positive_not_negative _ (det_back a A c C m)) o))
    (λ m. drop_first vs u v r A B C a b c K W X Y iv ir e s n t l m))
  where
    drop_b : B <ℤ pos 0 → pos 0 ≤ℤ det b B a A → pos 0 ≤ℤ det b B c C → Short vs W X Y
    drop_b nb da dc = drop_first vs v u r B A C b a c K W X Y iu ir (rel_swap u v r A B C e) (sum3_swap u v r a b c K W X Y s) nb (total_swap A B C t) da dc

    drop_c : C <ℤ pos 0 → pos 0 ≤ℤ det c C a A → pos 0 ≤ℤ det c C b B → Short vs W X Y
    drop_c nc da db = drop_first vs r u v C A B c a b K W X Y iu iv (rel_turn u v r A B C e) (sum_turn u v r a b c K W X Y s) nc (total_turn A B C t) da db

abbrev Nonzero : ℤ → ℤ → ℤ → Type 0
Nonzero A B C = A ≡ pos 0 → B ≡ pos 0 → C ≡ pos 0 → ⊥

-- a sum of 0 whose weights are not all 0, and do not sum to less than 0
signed_rel : (vs : List Pt) (u v r : Pt) (A B C a b c K W X Y : ℤ) → Includes vs u → Includes vs v → Includes vs r → Rel u v r A B C → Sum3 u v r a b c K W X Y
    → Nonzero A B C → pos 0 ≤ℤ ((A +ℤ B) +ℤ C) → Short vs W X Y ⊎ Meets0 vs
signed_rel vs u v r A B C a b c K W X Y iu iv ir e s nz t =
    by_lt_z A (pos 0) (λ n. inl (with_first vs u v r A B C a b c K W X Y iu iv ir e s n t))
    (λ pa. by_lt_z B (pos 0) (λ n. inl (with_first vs v u r B A C b a c K W X Y iv iu ir (rel_swap u v r A B C e) (sum3_swap u v r a b c K W X Y s) n (total_swap A B C t)))
    (λ pb. by_lt_z C (pos 0) (λ n. inl (with_first vs r u v C A B c a b K W X Y ir iu iv (rel_turn u v r A B C e) (sum_turn u v r a b c K W X Y s) n (total_turn A B C t)))
    (λ pc. inr (meets_of vs u v r A B C iu iv ir e pa pb pc (some pa pb pc)))))
  where
    some : pos 0 ≤ℤ A → pos 0 ≤ℤ B → pos 0 ≤ℤ C → pos 0 <ℤ ((A +ℤ B) +ℤ C)
    some pa pb pc = by_lt_z (pos 0) ((A +ℤ B) +ℤ C) (λ h. h) (λ h. absurd (nz (omega (arith, ints)) (omega (arith, ints)) (omega (arith, ints))))

-- any sum of 0 whose weights are not all 0
from_rel : (vs : List Pt) (u v r : Pt) (A B C a b c K W X Y : ℤ) → Includes vs u → Includes vs v → Includes vs r → Rel u v r A B C → Sum3 u v r a b c K W X Y
    → Nonzero A B C → Short vs W X Y ⊎ Meets0 vs
from_rel vs u v r A B C a b c K W X Y iu iv ir e s nz =
    by_lt_z ((A +ℤ B) +ℤ C) (pos 0)
    (λ n. signed_rel vs u v r (pos 0 -ℤ A) (pos 0 -ℤ B) (pos 0 -ℤ C) a b c K W X Y iu iv ir
    (record { x = rel_line A B C u.x v.x r.x e.x; y = rel_line A B C u.y v.y r.y e.y }) s
    (λ h k m. nz (zero_of_opposite A h) (zero_of_opposite B k) (zero_of_opposite C m)) (omega (arith, ints)))
    (λ t. signed_rel vs u v r A B C a b c K W X Y iu iv ir e s nz t)

-- weighted points of three, moved towards 0, are weighted points of two, or 0 is in the hull
three : (vs : List Pt) (u v r : Pt) (a b c K W X Y : ℤ) → Includes vs u → Includes vs v → Includes vs r → Sum3 u v r a b c K W X Y → Short vs W X Y ⊎ Meets0 vs
three vs u v r a b c K W X Y iu iv ir s =
    elim (is_zero (turn_of u v)) [
      | inr nz ↦ from_rel vs u v r (turn_of v r) (turn_of r u) (turn_of u v) a b c K W X Y iu iv ir (turns_rel u v r) s (λ h k m. nz m)
      | inl z ↦ elim (is_zero (inner_product u u)) [
        | inr nz ↦ from_rel vs u v r (inner_product u v) (pos 0 -ℤ inner_product u u) (pos 0) a b c K W X Y iu iv ir (flat_rel u v r z) s (λ h k m. nz (zero_of_opposite (inner_product u u) k))
        | inl o ↦ inr (record { n = 1; some = omega arith; mix = mix_to vs _ _ _ _ _ _ refl (zero_part u.x u.y o) (zero_part u.y u.x (sum_swap (u.y *ℤ u.y) (u.x *ℤ u.x) ∙ o)) (mix_included vs u iu) })
      ]
    ]

-- ---- the whole list

-- weighted points come to a segment, or 0 is in the hull
pub ray : (ws : List ℕ) (vs : List Pt) → 0 < total ws vs → Short vs (pos (total ws vs)) (weighted (λ v. v.x) ws vs) (weighted (λ v. v.y) ws vs) ⊎ Meets0 vs
ray [] vs h = absurd (omega arith)
ray (w ∷ ws) [] h = absurd (omega arith)
ray (w ∷ ws) (r ∷ vs) h = go (total ws vs) refl (λ k. ray ws vs k)
  where
    alone : (w : ℕ) (z s : ℤ) → s ≡ pos 0 → (pos w *ℤ z) +ℤ (pos 0 *ℤ z) ≡ pos 1 *ℤ ((pos w *ℤ z) +ℤ s)
    alone w z s h = rw h (omega (arith, ints))

    alone_far : (w n : ℕ) → n ≡ 0 → (pos 1 *ℤ pos (w + n)) ≤ℤ (pos w +ℤ pos 0)
    alone_far w n h = rw h (omega (arith, ints))

    more_line : (a b k u v z s w : ℤ) → (a *ℤ u) +ℤ (b *ℤ v) ≡ k *ℤ s → ((a *ℤ u) +ℤ (b *ℤ v)) +ℤ ((k *ℤ w) *ℤ z) ≡ k *ℤ ((w *ℤ z) +ℤ s)
    more_line a b k u v z s w h = ap (λ t. t +ℤ ((k *ℤ w) *ℤ z)) h ∙ ring (k ∷ s ∷ w ∷ z ∷ []) ((var 0 ⊗ var 1) ⊕ ((var 0 ⊗ var 2) ⊗ var 3)) (var 0 ⊗ ((var 2 ⊗ var 3) ⊕ var 1)) refl

    more_far : (a b k : ℤ) (w n : ℕ) → (k *ℤ pos n) ≤ℤ (a +ℤ b) → (k *ℤ pos (w + n)) ≤ℤ ((a +ℤ b) +ℤ (k *ℤ pos w))
    more_far a b k w n h = let e : k *ℤ (pos w +ℤ pos n) ≡ (k *ℤ pos w) +ℤ (k *ℤ pos n) = ring (k ∷ pos w ∷ pos n ∷ []) (var 0 ⊗ (var 1 ⊕ var 2)) ((var 0 ⊗ var 1) ⊕ (var 0 ⊗ var 2)) refl in
        subst (λ z. z ≤ℤ ((a +ℤ b) +ℤ (k *ℤ pos w))) (sym e) (plain (a +ℤ b) (k *ℤ pos w) (k *ℤ pos n) h)
      where
        plain : (s t r : ℤ) → r ≤ℤ s → (t +ℤ r) ≤ℤ (s +ℤ t)
        plain s t r h = omega (arith, ints)

    go : (n : ℕ) → total ws vs ≡ n → (0 < total ws vs → Short vs (pos (total ws vs)) (weighted (λ v. v.x) ws vs) (weighted (λ v. v.y) ws vs) ⊎ Meets0 vs) → Short (r ∷ vs) (pos (w + total ws vs)) ((pos w *ℤ r.x) +ℤ weighted (λ v. v.x) ws vs) ((pos w *ℤ r.y) +ℤ weighted (λ v. v.y) ws vs) ⊎ Meets0 (r ∷ vs)
    go zero e ih = inl (record {
      u = r;
      v = r;
      a = pos w;
      b = pos 0;
      k = pos 1;
      u_in = inl refl;
      v_in = inl refl;
      a_ok = omega (arith, ints);
      b_ok = omega (arith, ints);
      k_ok = omega (arith, ints);
      x = alone w r.x _ (no_total (λ v. v.x) ws vs e);
      y = alone w r.y _ (no_total (λ v. v.y) ws vs e);
      far = alone_far w (total ws vs) e;
    })
    go (suc m) e ih = elim (ih (omega (arith, e))) [
      | inr z ↦ inr (record { n = z.n; some = z.some; mix = mix_more r vs _ _ _ z.mix })
      | inl s ↦ three (r ∷ vs) s.u s.v r s.a s.b (s.k *ℤ pos w) s.k (pos (w + total ws vs)) _ _ (inr s.u_in) (inr s.v_in) (inl refl) (record {
        a_ok = s.a_ok;
        b_ok = s.b_ok;
        c_ok = product_not_negative s.k (pos w) (positive_not_negative s.k s.k_ok) (omega (arith, ints));
        k_ok = s.k_ok;
        x = more_line s.a s.b s.k s.u.x s.v.x r.x (weighted (λ v. v.x) ws vs) (pos w) s.x;
        y = more_line s.a s.b s.k s.u.y s.v.y r.y (weighted (λ v. v.y) ws vs) (pos w) s.y;
        far = more_far s.a s.b s.k w (total ws vs) s.far;
      })
    ]
