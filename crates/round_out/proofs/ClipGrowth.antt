-- How far a clip reaches past its polygon along a normal: by less than the factor of the coordinate that is rounded.
use Rattle.std.proofs.Common.{◌≡◌, ◌∙◌, ◌⊎◌, inl, inr, ℕ, ◌+◌, ◌-◌, ◌≤◌, ◌<◌, arith, ap, sym, refl, subst, List, [], ◌∷◌, map, Some, None}
use Rattle.std.specs.Prelude.{nat_abs}
use Rattle.std.specs.List.{AllByRecursion}
use Rattle.std.proofs.lemmas.Int.{ints}
use lib.IntN.{ℤ, pos, neg_ℤ, ◌+ℤ◌, ◌-ℤ◌, ◌*ℤ◌}
use lib.Signed.{◌≤ℤ◌, ◌<ℤ◌}
use Rattle.spot_terms.specs.declared.plain.Pt.{Pt}
use Rattle.spot_terms.specs.Clips.{Reflection, as_it_is, x_turned, swapped, turned_and_swapped, IsClip, beside, clip_points, height_below, height_above}
use Rattle.spot_terms.specs.Hull.{IsHullOf, IsSupport}
use Rattle.spot_terms.specs.Lists.{Includes}
use Rattle.spot_terms.specs.Reach.{Normal, along}
use Rattle.spot_terms.specs.Whole.{quotient_floor, quotient_ceiling}
use Rattle.spot_terms.proofs.ListLemmas.{all_included, all_of}
use Rattle.spot_terms.proofs.Members.{in_map}
use Rattle.spot_terms.proofs.Quotients.{quotient_floor-is, quotient_ceiling-is}
use Rattle.spot_terms.proofs.Ring.{ring, var, num, ◌⊕◌, ◌⊖◌, ◌⊗◌}
use Rattle.round_out.specs.Clips.{reflection}
use Rattle.round_out.specs.Growth.{one_less, by_speed, by_place, rounded_by, AreWithin, ClipAdds, GrowsBy}
use Rattle.round_out.specs.declared.clips.Side.{Side}
use Rattle.round_out.specs.declared.clips.Side.TheVariants.{XMax, XMin, VMax, VMin}
use Rattle.round_out.proofs.ClipHulls.{clip_of}
use Rattle.round_out.proofs.CrossingGrowth.{crossing_growth}
use Rattle.round_out.proofs.Crossings.{IsCrossing, clip_point, crossing_on_line}
use Rattle.round_out.proofs.LineMixes.{at}
use Rattle.round_out.proofs.Reflections.{IsMirror, mirror}

-- ---- the rest of a height is below the width in size

down_rest : (ay d n : ℤ) → pos 0 <ℤ d → nat_abs (d *ℤ ((ay +ℤ quotient_floor n d) -ℤ ay) -ℤ n) ≤ nat_abs d - 1
down_rest ay d n some =
    let is = quotient_floor-is n d some in
    small d n (quotient_floor n d *ℤ d) _ _ (turn ay (quotient_floor n d) d) (next (quotient_floor n d) d) some is.product_le is.next_product_gt
  where
    turn : (ay q d : ℤ) → d *ℤ ((ay +ℤ q) -ℤ ay) ≡ q *ℤ d
    turn ay q d = ring (ay ∷ q ∷ d ∷ []) (var 2 ⊗ ((var 0 ⊕ var 1) ⊖ var 0)) (var 1 ⊗ var 2) refl

    next : (q d : ℤ) → (q +ℤ pos 1) *ℤ d ≡ (q *ℤ d) +ℤ d
    next q d = ring (q ∷ d ∷ []) ((var 0 ⊕ num (pos 1)) ⊗ var 1) ((var 0 ⊗ var 1) ⊕ var 1) refl

    small : (d n p l m : ℤ) → l ≡ p → m ≡ p +ℤ d → pos 0 <ℤ d → p ≤ℤ n → n <ℤ m → nat_abs (l -ℤ n) ≤ nat_abs d - 1
    small d n p l m e f some h k = omega (arith, ints)

up_rest : (ay d n : ℤ) → pos 0 <ℤ d → nat_abs (d *ℤ ((ay +ℤ quotient_ceiling n d) -ℤ ay) -ℤ n) ≤ nat_abs d - 1
up_rest ay d n some =
    let is = quotient_ceiling-is n d some in
    small d n (quotient_ceiling n d *ℤ d) _ _ (turn ay (quotient_ceiling n d) d) (before (quotient_ceiling n d) d) some is.product_ge is.previous_product_lt
  where
    turn : (ay q d : ℤ) → d *ℤ ((ay +ℤ q) -ℤ ay) ≡ q *ℤ d
    turn ay q d = ring (ay ∷ q ∷ d ∷ []) (var 2 ⊗ ((var 0 ⊕ var 1) ⊖ var 0)) (var 1 ⊗ var 2) refl

    before : (q d : ℤ) → (q -ℤ pos 1) *ℤ d ≡ (q *ℤ d) -ℤ d
    before q d = ring (q ∷ d ∷ []) ((var 0 ⊖ num (pos 1)) ⊗ var 1) ((var 0 ⊗ var 1) ⊖ var 1) refl

    small : (d n p l m : ℤ) → l ≡ p → m ≡ p -ℤ d → pos 0 <ℤ d → n ≤ℤ p → m <ℤ n → nat_abs (l -ℤ n) ≤ nat_abs d - 1
    small d n p l m e f some h k = omega (arith, ints)

-- the size of a factor, and at least 1
abbrev size_of : ℤ → ℕ
size_of z = (nat_abs z - 1) + 1

at_line : (c y m n1 n2 ax ay bx by : ℤ) → ax <ℤ c → c <ℤ bx → nat_abs ((bx -ℤ ax) *ℤ (y -ℤ ay) -ℤ (by -ℤ ay) *ℤ (c -ℤ ax)) ≤ nat_abs (bx -ℤ ax) - 1
    → (n1 *ℤ ax +ℤ n2 *ℤ ay) ≤ℤ m → (n1 *ℤ bx +ℤ n2 *ℤ by) ≤ℤ m → (n1 *ℤ c +ℤ n2 *ℤ y) ≤ℤ (m +ℤ one_less n2)
at_line c y m n1 n2 ax ay bx by low high rest a b =
    less (n1 *ℤ c +ℤ n2 *ℤ y) m (nat_abs n2 - 1)
    (crossing_growth n1 n2 ax ay bx by c y m (size_of n2) (nat_abs (bx -ℤ ax) - 1) (width ax bx c low high) (weak ax c low) (weak c bx high) rest (omega arith) (omega arith) a b)
  where
    width : (ax bx c : ℤ) → ax <ℤ c → c <ℤ bx → bx -ℤ ax ≡ pos ((nat_abs (bx -ℤ ax) - 1) + 1)
    width ax bx c low high = omega (arith, ints)

    weak : (z w : ℤ) → z <ℤ w → z ≤ℤ w
    weak z w h = omega (arith, ints)

    less : (v m : ℤ) (e : ℕ) → v <ℤ (m +ℤ pos (e + 1)) → v ≤ℤ (m +ℤ pos e)
    less v m e h = omega (arith, ints)

wide : (ax bx c : ℤ) → ax <ℤ c → c <ℤ bx → pos 0 <ℤ (bx -ℤ ax)
wide ax bx c low high = omega (arith, ints)

-- a point beside a crossing is past a bound of both ends by at most one less than the factor of the height
beside_within : (c : ℤ) (a b u : Pt) (n : Normal) (m : ℤ) → IsCrossing c a b u → along n a ≤ℤ m → along n b ≤ℤ m → along n u ≤ℤ (m +ℤ by_speed n)
beside_within c a b u n m k h g = on k.near
  where
    on : Includes (beside c a b) u → along n u ≤ℤ (m +ℤ by_speed n)
    on (inl e) = subst (λ (z : Pt). along n z ≤ℤ (m +ℤ by_speed n)) (sym e)
        (at_line c (height_below c a b) m n.0 n.1 a.x a.y b.x b.y k.low k.high (down_rest a.y (b.x -ℤ a.x) ((b.y -ℤ a.y) *ℤ (c -ℤ a.x)) (wide a.x b.x c k.low k.high)) h g)
    on (inr (inl e)) = subst (λ (z : Pt). along n z ≤ℤ (m +ℤ by_speed n)) (sym e)
        (at_line c (height_above c a b) m n.0 n.1 a.x a.y b.x b.y k.low k.high (up_rest a.y (b.x -ℤ a.x) ((b.y -ℤ a.y) *ℤ (c -ℤ a.x)) (wide a.x b.x c k.low k.high)) h g)
    on (inr (inr none)) = absurd none

-- the points of a clip to x ≤ c
points_within : (c : ℤ) (vs : List Pt) (n : Normal) (m : ℤ) (u : Pt) → ((v : Pt) → Includes vs v → along n v ≤ℤ m) → Includes (clip_points c vs) u → along n u ≤ℤ (m +ℤ by_speed n)
points_within c vs n m u within i = elim (clip_point c vs u i) [
  | inl corner ↦ more (along n u) m (nat_abs n.1 - 1) (within u corner.0)
  | inr edge ↦ beside_within c edge.start edge.goes_to u n m edge.crosses (within edge.start edge.has_start) (within edge.goes_to edge.has_end)
]
  where
    more : (v m : ℤ) (e : ℕ) → v ≤ℤ m → v ≤ℤ (m +ℤ pos e)
    more v m e h = omega (arith, ints)

-- ---- reflected

-- n is read as t's image of it at reflected points
abbrev Reads : Reflection → Normal → Normal → Type 0
Reads t n r = (p : Pt) → along n (t p) ≡ along r p

clip_within : (t : Reflection) (m : IsMirror t) (n r : Normal) → Reads t n r → (c : ℤ) (vs clipped : List Pt) (most : ℤ) → IsHullOf (clip_of t c vs) clipped → AreWithin n most vs → AreWithin n (most +ℤ by_speed r) clipped
clip_within t m n r reads c vs clipped most hull within =
    all_of (λ u. along n u ≤ℤ (most +ℤ by_speed r)) clipped each
  where
    image : (v : Pt) → Includes (map t vs) v → along r v ≤ℤ most
    image v i =
        let (w, j, e) = in_map t vs v i in
        subst (λ z. z ≤ℤ most) (reads v) (subst (λ (z : Pt). along n z ≤ℤ most) (sym (ap t e ∙ m.undoes w)) (all_included (λ u. along n u ≤ℤ most) vs w within j))

    each : (u : Pt) → Includes clipped u → along n u ≤ℤ (most +ℤ by_speed r)
    each u i =
        let (z, j, e) = in_map t (clip_points c (map t vs)) u (all_included (Includes (clip_of t c vs)) clipped u hull.among i) in
        subst (λ (y : Pt). along n y ≤ℤ (most +ℤ by_speed r)) (sym e) (subst (λ y. y ≤ℤ (most +ℤ by_speed r)) (sym (reads z)) (points_within c (map t vs) r most z image j))

same_size : (z : ℤ) → pos (nat_abs (neg_ℤ z) - 1) ≡ pos (nat_abs z - 1)
same_size z = omega (arith, ints)

-- the four sides
pub place_max_adds : ClipAdds by_speed as_it_is
place_max_adds c vs clipped n m clip within = clip_within as_it_is (mirror XMax) n n (λ p. refl) c vs clipped m clip.1 within

pub place_min_adds : ClipAdds by_speed x_turned
place_min_adds c vs clipped n m clip within = clip_within x_turned (mirror XMin) n (neg_ℤ n.0, n.1) (λ p. reads n.0 n.1 p.x p.y) c vs clipped m clip.1 within
  where
    reads : (a b x y : ℤ) → a *ℤ (pos 0 -ℤ x) +ℤ b *ℤ y ≡ neg_ℤ a *ℤ x +ℤ b *ℤ y
    reads a b x y = minus a ∙ sym (ap (λ z. z *ℤ x +ℤ b *ℤ y) (negated a))
      where
        negated : (a : ℤ) → neg_ℤ a ≡ pos 0 -ℤ a
        negated a = omega (arith, ints)

        minus : (a : ℤ) → a *ℤ (pos 0 -ℤ x) +ℤ b *ℤ y ≡ (pos 0 -ℤ a) *ℤ x +ℤ b *ℤ y
        minus a = ring (a ∷ b ∷ x ∷ y ∷ []) ((var 0 ⊗ (num (pos 0) ⊖ var 2)) ⊕ (var 1 ⊗ var 3)) (((num (pos 0) ⊖ var 0) ⊗ var 2) ⊕ (var 1 ⊗ var 3)) refl

pub speed_max_adds : ClipAdds by_place swapped
speed_max_adds c vs clipped n m clip within = clip_within swapped (mirror VMax) n (n.1, n.0) (λ p. reads n.0 n.1 p.x p.y) c vs clipped m clip.1 within
  where
    reads : (a b x y : ℤ) → a *ℤ y +ℤ b *ℤ x ≡ b *ℤ x +ℤ a *ℤ y
    reads a b x y = ring (a ∷ b ∷ x ∷ y ∷ []) ((var 0 ⊗ var 3) ⊕ (var 1 ⊗ var 2)) ((var 1 ⊗ var 2) ⊕ (var 0 ⊗ var 3)) refl

pub speed_min_adds : ClipAdds by_place turned_and_swapped
speed_min_adds c vs clipped n m clip within =
    subst (λ z. AreWithin n (m +ℤ z) clipped) (same_size n.0)
    (clip_within turned_and_swapped (mirror VMin) n (neg_ℤ n.1, neg_ℤ n.0) (λ p. reads n.0 n.1 p.x p.y) c vs clipped m clip.1 within)
  where
    reads : (a b x y : ℤ) → a *ℤ (pos 0 -ℤ y) +ℤ b *ℤ (pos 0 -ℤ x) ≡ neg_ℤ b *ℤ x +ℤ neg_ℤ a *ℤ y
    reads a b x y = minus a b ∙ sym (ap (λ z. z *ℤ x +ℤ (pos 0 -ℤ a) *ℤ y) (negated b)) ∙ sym (ap (λ z. neg_ℤ b *ℤ x +ℤ z *ℤ y) (negated a))
      where
        negated : (a : ℤ) → neg_ℤ a ≡ pos 0 -ℤ a
        negated a = omega (arith, ints)

        minus : (a b : ℤ) → a *ℤ (pos 0 -ℤ y) +ℤ b *ℤ (pos 0 -ℤ x) ≡ (pos 0 -ℤ b) *ℤ x +ℤ (pos 0 -ℤ a) *ℤ y
        minus a b = ring (a ∷ b ∷ x ∷ y ∷ []) ((var 0 ⊗ (num (pos 0) ⊖ var 3)) ⊕ (var 1 ⊗ (num (pos 0) ⊖ var 2))) (((num (pos 0) ⊖ var 1) ⊗ var 2) ⊕ ((num (pos 0) ⊖ var 0) ⊗ var 3)) refl

-- ---- in supports

-- a bound of all corners is one of the support
pub within_support : (n : Normal) (m h : ℤ) (vs : List Pt) → AreWithin n m vs → IsSupport vs n.0 n.1 h → h ≤ℤ m
within_support n m h vs within s =
    let (c, i, e) = s.reached in subst (λ z. z ≤ℤ m) e (all_included (λ u. along n u ≤ℤ m) vs c within i)

support_within : (n : Normal) (g : ℤ) (vs : List Pt) → IsSupport vs n.0 n.1 g → AreWithin n g vs
support_within n g vs s = all_of (λ u. along n u ≤ℤ g) vs s.bound

pub grows : (more : Normal → ℤ) (t : Reflection) → ClipAdds more t → (c : ℤ) (vs clipped : List Pt) → IsClip t c vs (Some clipped) → GrowsBy more vs (Some clipped)
grows more t adds c vs clipped clip n g h s r = within_support n (g +ℤ more n) h clipped (adds c vs clipped n g clip (support_within n g vs s)) r

adds : (s : Side) → ClipAdds (rounded_by s) (reflection s)
adds XMax = place_max_adds
adds XMin = place_min_adds
adds VMax = speed_max_adds
adds VMin = speed_min_adds

pub side_grows : (s : Side) (c : ℤ) (vs clipped : List Pt) → IsClip (reflection s) c vs (Some clipped) → GrowsBy (rounded_by s) vs (Some clipped)
side_grows s c vs clipped clip = grows (rounded_by s) (reflection s) (adds s) c vs clipped clip
