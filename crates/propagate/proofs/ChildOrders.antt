-- Child numbers are in order, and in range.
use Rattle.std.proofs.Common.{◌≡◌, ◌∙◌, ℕ, ◌+◌, ◌-◌, ◌*◌, ◌/◌, ◌<◌, ◌≤◌, arith, sym, refl, subst, List, [], ◌∷◌, map}
use Rattle.std.specs.Prelude.{nat_abs, slice_index_or}
use Rattle.std.specs.List.{AllByRecursion}
use Rattle.std.proofs.lemmas.Int.{ints}
use lib.IntN.{ℤ, pos, negsuc, neg_ℤ, ◌+ℤ◌, ◌-ℤ◌, ◌*ℤ◌}
use lib.Signed.{◌≤ℤ◌}
use Rattle.spot_terms.specs.declared.plain.Pt.{Pt}
use Rattle.spot_terms.specs.Frames.{at, number, AreFrameSupports, IsFrameInOrder, IsFrameInRange}
use Rattle.spot_terms.specs.Hull.{dot, IsSupport}
use Rattle.spot_terms.proofs.ListLemmas.{all_included, includes_map, pairwise_at}
use Rattle.spot_terms.proofs.Members.{in_map}
use Rattle.spot_terms.proofs.Products.{products}
use Rattle.spot_terms.proofs.Ring.{ring, var, ◌⊕◌, ◌⊗◌}
use Rattle.convex_poly.proofs.Wide.{product_within}
use Rattle.round_out.proofs.FrameBounds.{supports_in_order, value2, value3, value6, value7}
use Rattle.propagate.proofs.NumberLists.{speed_growth, place_growth, double_growth, normal_growths, IsChildNumber, AreChildNumbers}
use Rattle.propagate.specs.Children.{IsStepPoint}
use Rattle.spot_terms.proofs.Orders.{product_order}

-- ---- the sheared polygon

abbrev shear : ℕ → Pt → Pt
shear k p = at (p.x +ℤ pos k *ℤ p.y) p.y

sheared_dot : (k : ℕ) (n1 n2 x y : ℤ) → n1 *ℤ (x +ℤ pos k *ℤ y) +ℤ n2 *ℤ y ≡ n1 *ℤ x +ℤ (pos k *ℤ n1 +ℤ n2) *ℤ y
sheared_dot k n1 n2 x y =
    ring (pos k ∷ n1 ∷ n2 ∷ x ∷ y ∷ []) ((var 1 ⊗ (var 3 ⊕ (var 0 ⊗ var 4))) ⊕ (var 2 ⊗ var 4)) ((var 1 ⊗ var 3) ⊕ (((var 0 ⊗ var 1) ⊕ var 2) ⊗ var 4)) refl

sheared_support : (k : ℕ) (vs : List Pt) (n1 n2 h : ℤ) → IsSupport vs n1 (pos k *ℤ n1 +ℤ n2) h → IsSupport (map (shear k) vs) n1 n2 h
sheared_support k vs n1 n2 h s = record {
  bound = λ c i. let (u, j, e) = in_map (shear k) vs c i in subst (λ (z : Pt). dot n1 n2 z ≤ℤ h) (sym e) (subst (λ z. z ≤ℤ h) (sym (sheared_dot k n1 n2 u.x u.y)) (s.bound u j));
  reached = let (u, j, e) = s.reached in (shear k u, includes_map (shear k) vs u j, sheared_dot k n1 n2 u.x u.y ∙ e);
}

-- ---- the growths are in order

record GrowthsInOrder (k s m d : ℕ) : Type 0 where
  speed : k * s ≤ m + m
  place : 2 * m ≤ k * s + d
  double : d ≤ m + m

growths_in_order : (a k : ℕ) → 0 < a → 0 < k → GrowthsInOrder k (speed_growth a k) (place_growth a k) (double_growth a k)
growths_in_order a k some ticks = record {
  speed = omega arith;
  place = place a k;
  double = double a k ((k * k) / 2) (k * k - 2 * ((k * k) / 2)) (omega arith) (positive a k some ticks);
}
  where
    place : (a k : ℕ) → 2 * ((k * k * a + k) / 2) ≤ k * (k * a) + (a * ((k * k) / 2) + k)
    place a k = omega arith

    one_at_least : (x y : ℕ) → 0 < x → 0 < y → 1 ≤ x * y
    one_at_least x y h k = grind arith

    positive : (a k : ℕ) → 0 < a → 0 < k → 1 ≤ a * ((k * k) / 2 + (k * k - 2 * ((k * k) / 2)))
    positive a k h t = let square = one_at_least k k t t in one_at_least a ((k * k) / 2 + (k * k - 2 * ((k * k) / 2))) h (omega arith)

    double : (a k h r : ℕ) → k * k ≡ 2 * h + r → 1 ≤ a * (h + r) → a * h + k ≤ (k * k * a + k) / 2 + (k * k * a + k) / 2
    double a k h r e p = rw e (omega arith)

-- ---- child numbers

-- the number of a normal without its growth is a support of the sheared polygon
number_is : (a k : ℕ) (vs : List Pt) (f : List ℤ) (i : ℕ) → i < 8 → AreChildNumbers a k vs f → IsChildNumber k vs (slice_index_or (normal_growths a k) i ((pos 0, pos 0), 0)) (number f i)
number_is a k vs f i l s = pairwise_at (IsChildNumber k vs) (normal_growths a k) f i ((pos 0, pos 0), 0) (pos 0) l s

abbrev less : ℕ → ℕ → List ℤ → List ℤ
less a k f =
    (number f 0 -ℤ pos (speed_growth a k)) ∷ (number f 1 -ℤ pos (place_growth a k)) ∷ (number f 2 -ℤ pos (double_growth a k)) ∷ (number f 3 -ℤ pos (place_growth a k))
    ∷ (number f 4 -ℤ pos (speed_growth a k)) ∷ (number f 5 -ℤ pos (place_growth a k)) ∷ (number f 6 -ℤ pos (double_growth a k)) ∷ (number f 7 -ℤ pos (place_growth a k)) ∷ []

less_supports : (a k : ℕ) (vs : List Pt) (f : List ℤ) → AreChildNumbers a k vs f → AreFrameSupports (pos k) (map (shear k) vs) (less a k f)
less_supports a k vs f s = (
  sheared_support k vs (pos 0) (pos 1) _ (number_is a k vs f 0 (omega arith) s),
  (
    sheared_support k vs (pos 1) (pos 0) _ (number_is a k vs f 1 (omega arith) s),
    (
      sheared_support k vs (pos 2) (neg_ℤ (pos k)) _ (number_is a k vs f 2 (omega arith) s),
      (
        sheared_support k vs (pos 1) (neg_ℤ (pos k)) _ (number_is a k vs f 3 (omega arith) s),
        (
          sheared_support k vs (pos 0) (negsuc 0) _ (number_is a k vs f 4 (omega arith) s),
          (
            sheared_support k vs (negsuc 0) (pos 0) _ (number_is a k vs f 5 (omega arith) s),
            (
              sheared_support k vs (negsuc 1) (pos k) _ (number_is a k vs f 6 (omega arith) s),
              (sheared_support k vs (negsuc 0) (pos k) _ (number_is a k vs f 7 (omega arith) s), tt),
            ),
          ),
        ),
      ),
    ),
  ),
)

pub child_numbers_in_order : (a k : ℕ) (vs : List Pt) (f : List ℤ) → 0 < a → 0 < k → AreChildNumbers a k vs f → IsFrameInOrder (pos k) f
child_numbers_in_order a k vs f some ticks s =
    let o = supports_in_order k (map (shear k) vs) (less a k f) (less_supports a k vs f s) in
    let g = growths_in_order a k some ticks in
    record {
      n0 = speed k (number f 0) (number f 7) (number f 1) (speed_growth a k) (place_growth a k) o.n0 g.speed;
      n1 = place k (number f 1) (number f 0) (number f 2) (speed_growth a k) (place_growth a k) (double_growth a k) o.n1 g.place;
      n2 = double (number f 2) (number f 1) (number f 3) (place_growth a k) (double_growth a k) o.n2 g.double;
      n3 = place_back k (number f 3) (number f 4) (number f 2) (speed_growth a k) (place_growth a k) (double_growth a k) o.n3 g.place;
      n4 = speed k (number f 4) (number f 3) (number f 5) (speed_growth a k) (place_growth a k) o.n4 g.speed;
      n5 = place k (number f 5) (number f 4) (number f 6) (speed_growth a k) (place_growth a k) (double_growth a k) o.n5 g.place;
      n6 = double (number f 6) (number f 5) (number f 7) (place_growth a k) (double_growth a k) o.n6 g.double;
      n7 = place_back k (number f 7) (number f 0) (number f 6) (speed_growth a k) (place_growth a k) (double_growth a k) o.n7 g.place;
      n04 = room (number f 0) (number f 4) (speed_growth a k) o.n04;
      n15 = room (number f 1) (number f 5) (place_growth a k) o.n15;
      n26 = room (number f 2) (number f 6) (double_growth a k) o.n26;
      n37 = room (number f 3) (number f 7) (place_growth a k) o.n37;
    }
  where
    speed : (k : ℕ) (x y z : ℤ) (s m : ℕ) → (pos k *ℤ (x -ℤ pos s)) ≤ℤ ((y -ℤ pos m) +ℤ (z -ℤ pos m)) → k * s ≤ m + m → (pos k *ℤ x) ≤ℤ (y +ℤ z)
    speed k x y z s m h g = omega (arith, ints, products)

    place : (k : ℕ) (x y z : ℤ) (s m d : ℕ) → (pos 2 *ℤ (x -ℤ pos m)) ≤ℤ (pos k *ℤ (y -ℤ pos s) +ℤ (z -ℤ pos d)) → 2 * m ≤ k * s + d → (pos 2 *ℤ x) ≤ℤ (pos k *ℤ y +ℤ z)
    place k x y z s m d h g = omega (arith, ints, products)

    place_back : (k : ℕ) (x y z : ℤ) (s m d : ℕ) → (pos 2 *ℤ (x -ℤ pos m)) ≤ℤ ((z -ℤ pos d) +ℤ pos k *ℤ (y -ℤ pos s)) → 2 * m ≤ k * s + d → (pos 2 *ℤ x) ≤ℤ (z +ℤ pos k *ℤ y)
    place_back k x y z s m d h g = omega (arith, ints, products)

    double : (x y z : ℤ) (m d : ℕ) → (x -ℤ pos d) ≤ℤ ((y -ℤ pos m) +ℤ (z -ℤ pos m)) → d ≤ m + m → x ≤ℤ (y +ℤ z)
    double x y z m d h g = omega (arith, ints)

    room : (x y : ℤ) (g : ℕ) → pos 0 ≤ℤ ((x -ℤ pos g) +ℤ (y -ℤ pos g)) → pos 0 ≤ℤ (x +ℤ y)
    room x y g h = omega (arith, ints)

-- ---- sizes

-- a corner of the sheared polygon that reaches a number without its growth
record Reaching (n1 n2 z : ℤ) : Type 0 where
  x : ℤ
  y : ℤ
  small_x : nat_abs x ≤ 31_000_000_000_000
  small_y : nat_abs y ≤ 900_000
  there : n1 *ℤ x +ℤ n2 *ℤ y ≡ z

reaching : (k : ℕ) (vs : List Pt) (n1 n2 z : ℤ) → k ≤ 1000 → AllByRecursion IsStepPoint vs → IsSupport vs n1 (pos k *ℤ n1 +ℤ n2) z → Reaching n1 n2 z
reaching k vs n1 n2 z few near s =
    let (c, i, e) = s.reached in
    let p = all_included IsStepPoint vs c near i in record {
      x = c.x +ℤ pos k *ℤ c.y;
      y = c.y;
      small_x = far c.x (pos k *ℤ c.y) p.x (omega (arith, product_within (pos k) c.y 1000 900_000 few p.y));
      small_y = p.y;
      there = sheared_dot k n1 n2 c.x c.y ∙ e;
    }
  where
    far : (x w : ℤ) → nat_abs x ≤ 30_000_000_000_000 → nat_abs w ≤ 900_000_000 → nat_abs (x +ℤ w) ≤ 31_000_000_000_000
    far x w h k = omega (arith, ints)

record AreSmall (a k : ℕ) : Type 0 where
  speed : speed_growth a k ≤ 20_000
  place : place_growth a k ≤ 11_000_000
  double : double_growth a k ≤ 11_000_000

small_growths : (a k : ℕ) → a ≤ 20 → k ≤ 1000 → AreSmall a k
small_growths a k slow few =
    let square : k * k ≤ 1_000_000 = omega (arith, product_order k k 1000 1000 few few) in
    let speed : k * a ≤ 20_000 = omega (arith, product_order k a 1000 20 few slow) in
    let most : k * k * a ≤ 20_000_000 = omega (arith, product_order (k * k) a 1_000_000 20 square slow) in
    let half : (k * k) / 2 ≤ 500_000 = omega (arith, square) in
    let double : a * ((k * k) / 2) ≤ 10_000_000 = omega (arith, product_order a ((k * k) / 2) 20 500_000 slow half) in
    record { speed = speed; place = omega (arith, most, few); double = omega (arith, double, few) }

pub child_numbers_in_range : (a k : ℕ) (vs : List Pt) (f : List ℤ) → a ≤ 20 → k ≤ 1000 → AllByRecursion IsStepPoint vs → AreChildNumbers a k vs f → IsFrameInRange f
child_numbers_in_range a k vs f slow few near s = record {
  n0 = let r = at (pos 0) (pos 1) (number f 0 -ℤ pos (speed_growth a k)) (number_is a k vs f 0 (omega arith) s) in small0 r.x r.y (number f 0) (speed_growth a k) r.small_y g.speed r.there;
  n1 = let r = at (pos 1) (pos 0) (number f 1 -ℤ pos (place_growth a k)) (number_is a k vs f 1 (omega arith) s) in small1 r.x r.y (number f 1) (place_growth a k) r.small_x g.place r.there;
  n2 = let r = at (pos 2) (neg_ℤ (pos k)) (number f 2 -ℤ pos (double_growth a k)) (number_is a k vs f 2 (omega arith) s) in small2 (pos k *ℤ r.y) r.x (number f 2) (double_growth a k) r.small_x (way r.y r.small_y) g.double (sym (value2 (pos k) r.x r.y) ∙ r.there);
  n3 = let r = at (pos 1) (neg_ℤ (pos k)) (number f 3 -ℤ pos (place_growth a k)) (number_is a k vs f 3 (omega arith) s) in small3 (pos k *ℤ r.y) r.x (number f 3) (place_growth a k) r.small_x (way r.y r.small_y) g.place (sym (value3 (pos k) r.x r.y) ∙ r.there);
  n4 = let r = at (pos 0) (negsuc 0) (number f 4 -ℤ pos (speed_growth a k)) (number_is a k vs f 4 (omega arith) s) in small4 r.x r.y (number f 4) (speed_growth a k) r.small_y g.speed r.there;
  n5 = let r = at (negsuc 0) (pos 0) (number f 5 -ℤ pos (place_growth a k)) (number_is a k vs f 5 (omega arith) s) in small5 r.x r.y (number f 5) (place_growth a k) r.small_x g.place r.there;
  n6 = let r = at (negsuc 1) (pos k) (number f 6 -ℤ pos (double_growth a k)) (number_is a k vs f 6 (omega arith) s) in small6 (pos k *ℤ r.y) r.x (number f 6) (double_growth a k) r.small_x (way r.y r.small_y) g.double (sym (value6 (pos k) r.x r.y) ∙ r.there);
  n7 = let r = at (negsuc 0) (pos k) (number f 7 -ℤ pos (place_growth a k)) (number_is a k vs f 7 (omega arith) s) in small7 (pos k *ℤ r.y) r.x (number f 7) (place_growth a k) r.small_x (way r.y r.small_y) g.place (sym (value7 (pos k) r.x r.y) ∙ r.there);
}
  where
    g : AreSmall a k
    g = small_growths a k slow few

    at : (n1 n2 z : ℤ) → IsSupport vs n1 (pos k *ℤ n1 +ℤ n2) z → Reaching n1 n2 z
    at n1 n2 z u = reaching k vs n1 n2 z few near u

    way : (y : ℤ) → nat_abs y ≤ 900_000 → nat_abs (pos k *ℤ y) ≤ 900_000_000
    way y h = omega (arith, product_within (pos k) y 1000 900_000 few h)

    small0 : (x y h : ℤ) (g : ℕ) → nat_abs y ≤ 900_000 → g ≤ 20_000 → pos 0 *ℤ x +ℤ pos 1 *ℤ y ≡ h -ℤ pos g → nat_abs h ≤ 1_000_000
    small0 x y h g a b e = omega (arith, ints)

    small4 : (x y h : ℤ) (g : ℕ) → nat_abs y ≤ 900_000 → g ≤ 20_000 → pos 0 *ℤ x +ℤ negsuc 0 *ℤ y ≡ h -ℤ pos g → nat_abs h ≤ 1_000_000
    small4 x y h g a b e = omega (arith, ints)

    small1 : (x y h : ℤ) (g : ℕ) → nat_abs x ≤ 31_000_000_000_000 → g ≤ 11_000_000 → pos 1 *ℤ x +ℤ pos 0 *ℤ y ≡ h -ℤ pos g → nat_abs h ≤ 40_000_000_000_000
    small1 x y h g a b e = omega (arith, ints)

    small5 : (x y h : ℤ) (g : ℕ) → nat_abs x ≤ 31_000_000_000_000 → g ≤ 11_000_000 → negsuc 0 *ℤ x +ℤ pos 0 *ℤ y ≡ h -ℤ pos g → nat_abs h ≤ 40_000_000_000_000
    small5 x y h g a b e = omega (arith, ints)

    small2 : (w x h : ℤ) (g : ℕ) → nat_abs x ≤ 31_000_000_000_000 → nat_abs w ≤ 900_000_000 → g ≤ 11_000_000 → (pos 2 *ℤ x) -ℤ w ≡ h -ℤ pos g → nat_abs h ≤ 100_000_000_000_000
    small2 w x h g a b c e = omega (arith, ints)

    small3 : (w x h : ℤ) (g : ℕ) → nat_abs x ≤ 31_000_000_000_000 → nat_abs w ≤ 900_000_000 → g ≤ 11_000_000 → x -ℤ w ≡ h -ℤ pos g → nat_abs h ≤ 100_000_000_000_000
    small3 w x h g a b c e = omega (arith, ints)

    small6 : (w x h : ℤ) (g : ℕ) → nat_abs x ≤ 31_000_000_000_000 → nat_abs w ≤ 900_000_000 → g ≤ 11_000_000 → w -ℤ (pos 2 *ℤ x) ≡ h -ℤ pos g → nat_abs h ≤ 100_000_000_000_000
    small6 w x h g a b c e = omega (arith, ints)

    small7 : (w x h : ℤ) (g : ℕ) → nat_abs x ≤ 31_000_000_000_000 → nat_abs w ≤ 900_000_000 → g ≤ 11_000_000 → w -ℤ x ≡ h -ℤ pos g → nat_abs h ≤ 100_000_000_000_000
    small7 w x h g a b c e = omega (arith, ints)
