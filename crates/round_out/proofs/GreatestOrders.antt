-- The greatest supports of many polygons are in order, and how far their frame reaches past the polygons.
use Rattle.std.proofs.Common.{◌≡◌, ℕ, ◌<◌, arith, refl, sym, subst, List, [], ◌∷◌}
use Rattle.std.proofs.lemmas.Int.{ints}
use lib.IntN.{ℤ, pos, ◌+ℤ◌, ◌*ℤ◌}
use lib.Signed.{◌≤ℤ◌}
use Rattle.spot_terms.specs.declared.plain.Pt.{Pt}
use Rattle.spot_terms.specs.ChildNumbers.{support, frame_supports}
use Rattle.spot_terms.specs.Frames.{number, frame_normals, frame_points, IsFrameInOrder}
use Rattle.spot_terms.specs.Hull.{IsHullOf, IsSupport}
use Rattle.spot_terms.specs.Reach.{Normal}
use Rattle.spot_terms.proofs.ListLemmas.{beside_map}
use Rattle.spot_terms.proofs.Products.{scaled_order}
use Rattle.spot_terms.proofs.Supports.{supports_are}
use Rattle.round_out.specs.Growth.{by_speed, frame_normal, AreWithin, RoundingLaws}

-- the supports of a polygon are in order
pub supports_order : RoundingLaws → (k : ℕ) (vs : List Pt) → (vs ≡ [] → ⊥) → IsFrameInOrder (pos k) (frame_supports k vs)
supports_order laws k [] some = absurd (some refl)
supports_order laws k (u ∷ us) some =
    laws.order k (u ∷ us) (frame_supports k (u ∷ us)) (beside_map (λ n h. IsSupport (u ∷ us) n.0 n.1 h) (λ n. support n (u ∷ us)) (frame_normals (pos k)) (λ n i. supports_are.greatest n u us))

-- h is the greatest support along n of the polygons of P
pub record IsGreatest (P : List Pt → Type 0) (n : Normal) (h : ℤ) : Type 0 where
  pub bound : (vs : List Pt) → P vs → support n vs ≤ℤ h
  pub reached : (vs : List Pt) × P vs × (support n vs ≡ h)

first : (k : ℕ) (s t u f g h : ℤ) → s ≡ f → (pos k *ℤ s) ≤ℤ (t +ℤ u) → t ≤ℤ g → u ≤ℤ h → (pos k *ℤ f) ≤ℤ (g +ℤ h)
first k s t u f g h e o a b = subst (λ z. (pos k *ℤ z) ≤ℤ (g +ℤ h)) e (sum (pos k *ℤ s) t u g h o a b)
  where
    sum : (z t u g h : ℤ) → z ≤ℤ (t +ℤ u) → t ≤ℤ g → u ≤ℤ h → z ≤ℤ (g +ℤ h)
    sum z t u g h o a b = omega (arith, ints)

second : (k : ℕ) (s t u f g h : ℤ) → s ≡ f → (pos 2 *ℤ s) ≤ℤ (pos k *ℤ t +ℤ u) → t ≤ℤ g → u ≤ℤ h → (pos 2 *ℤ f) ≤ℤ (pos k *ℤ g +ℤ h)
second k s t u f g h e o a b = subst (λ z. (pos 2 *ℤ z) ≤ℤ (pos k *ℤ g +ℤ h)) e (sum (pos 2 *ℤ s) (pos k *ℤ t) u (pos k *ℤ g) h o (scaled_order k t g a) b)
  where
    sum : (z t u g h : ℤ) → z ≤ℤ (t +ℤ u) → t ≤ℤ g → u ≤ℤ h → z ≤ℤ (g +ℤ h)
    sum z t u g h o a b = omega (arith, ints)

second_back : (k : ℕ) (s t u f g h : ℤ) → s ≡ f → (pos 2 *ℤ s) ≤ℤ (u +ℤ pos k *ℤ t) → t ≤ℤ g → u ≤ℤ h → (pos 2 *ℤ f) ≤ℤ (h +ℤ pos k *ℤ g)
second_back k s t u f g h e o a b = subst (λ z. (pos 2 *ℤ z) ≤ℤ (h +ℤ pos k *ℤ g)) e (sum (pos 2 *ℤ s) (pos k *ℤ t) u (pos k *ℤ g) h o (scaled_order k t g a) b)
  where
    sum : (z t u g h : ℤ) → z ≤ℤ (u +ℤ t) → t ≤ℤ g → u ≤ℤ h → z ≤ℤ (h +ℤ g)
    sum z t u g h o a b = omega (arith, ints)

third : (s t u f g h : ℤ) → s ≡ f → s ≤ℤ (t +ℤ u) → t ≤ℤ g → u ≤ℤ h → f ≤ℤ (g +ℤ h)
third s t u f g h e o a b = omega (arith, ints)

room : (s t f g : ℤ) → s ≡ f → pos 0 ≤ℤ (s +ℤ t) → t ≤ℤ g → pos 0 ≤ℤ (f +ℤ g)
room s t f g e o a = omega (arith, ints)

pub greatest_in_order : RoundingLaws → (k : ℕ) (P : List Pt → Type 0) → ((vs : List Pt) → P vs → vs ≡ [] → ⊥) → (f : List ℤ)
    → ((i : ℕ) → i < 8 → IsGreatest P (frame_normal (pos k) i) (number f i)) → IsFrameInOrder (pos k) f
greatest_in_order laws k P some f m =
    let m0 = m 0 (omega arith) in
    let m1 = m 1 (omega arith) in
    let m2 = m 2 (omega arith) in
    let m3 = m 3 (omega arith) in
    let m4 = m 4 (omega arith) in
    let m5 = m 5 (omega arith) in
    let m6 = m 6 (omega arith) in
    let m7 = m 7 (omega arith) in
    let (v0, p0, e0) = m0.reached in
    let (v1, p1, e1) = m1.reached in
    let (v2, p2, e2) = m2.reached in
    let (v3, p3, e3) = m3.reached in
    let (v4, p4, e4) = m4.reached in
    let (v5, p5, e5) = m5.reached in
    let (v6, p6, e6) = m6.reached in
    let (v7, p7, e7) = m7.reached in
    record {
      n0 = first k _ _ _ (number f 0) (number f 7) (number f 1) e0 (supports_order laws k v0 (some v0 p0)).n0 (m7.bound v0 p0) (m1.bound v0 p0);
      n1 = second k _ _ _ (number f 1) (number f 0) (number f 2) e1 (supports_order laws k v1 (some v1 p1)).n1 (m0.bound v1 p1) (m2.bound v1 p1);
      n2 = third _ _ _ (number f 2) (number f 1) (number f 3) e2 (supports_order laws k v2 (some v2 p2)).n2 (m1.bound v2 p2) (m3.bound v2 p2);
      n3 = second_back k _ _ _ (number f 3) (number f 4) (number f 2) e3 (supports_order laws k v3 (some v3 p3)).n3 (m4.bound v3 p3) (m2.bound v3 p3);
      n4 = first k _ _ _ (number f 4) (number f 3) (number f 5) e4 (supports_order laws k v4 (some v4 p4)).n4 (m3.bound v4 p4) (m5.bound v4 p4);
      n5 = second k _ _ _ (number f 5) (number f 4) (number f 6) e5 (supports_order laws k v5 (some v5 p5)).n5 (m4.bound v5 p5) (m6.bound v5 p5);
      n6 = third _ _ _ (number f 6) (number f 5) (number f 7) e6 (supports_order laws k v6 (some v6 p6)).n6 (m5.bound v6 p6) (m7.bound v6 p6);
      n7 = second_back k _ _ _ (number f 7) (number f 0) (number f 6) e7 (supports_order laws k v7 (some v7 p7)).n7 (m0.bound v7 p7) (m6.bound v7 p7);
      n04 = room _ _ (number f 0) (number f 4) e0 (supports_order laws k v0 (some v0 p0)).n04 (m4.bound v0 p0);
      n15 = room _ _ (number f 1) (number f 5) e1 (supports_order laws k v1 (some v1 p1)).n15 (m5.bound v1 p1);
      n26 = room _ _ (number f 2) (number f 6) e2 (supports_order laws k v2 (some v2 p2)).n26 (m6.bound v2 p2);
      n37 = room _ _ (number f 3) (number f 7) e3 (supports_order laws k v3 (some v3 p3)).n37 (m7.bound v3 p3);
    }

-- along each frame normal there is one of the polygons whose support the frame exceeds by at most what rounding a speed adds
pub within_greatest : RoundingLaws → (k : ℕ) → 0 < k → (P : List Pt → Type 0) → ((vs : List Pt) → P vs → vs ≡ [] → ⊥) → (f : List ℤ) (corners : List Pt)
    → ((i : ℕ) → i < 8 → IsGreatest P (frame_normal (pos k) i) (number f i)) → IsHullOf (frame_points (pos k) f) corners → (i : ℕ) → i < 8
    → (vs : List Pt) × P vs × AreWithin (frame_normal (pos k) i) (support (frame_normal (pos k) i) vs +ℤ by_speed (frame_normal (pos k) i)) corners
within_greatest laws k ticks P some f corners m frame i l =
    let (vs, p, e) = (m i l).reached in
    (vs, p, subst (λ z. AreWithin (frame_normal (pos k) i) (z +ℤ by_speed (frame_normal (pos k) i)) corners) (sym e) (laws.frame k f corners i ticks (greatest_in_order laws k P some f m) frame l))
