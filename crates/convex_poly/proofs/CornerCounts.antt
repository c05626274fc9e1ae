-- The corners of a corner list are different points, so the hull of n points has at most n corners.
use Rattle.std.proofs.Common.{◌≡◌, suc, ◌≤◌, arith, refl, sym, ap, ◌∙◌, subst, List, [], ◌∷◌, length, inl, inr}
use Rattle.std.specs.List.{AllByRecursion}
use lib.IntN.{ℤ, pos, ◌+ℤ◌, ◌-ℤ◌, ◌*ℤ◌}
use lib.Signed.{◌<ℤ◌}
use Rattle.spot_terms.specs.declared.plain.Pt.{Pt}
use Rattle.spot_terms.specs.Hull.{Before, IsCornerList, IsHullOf}
use Rattle.spot_terms.specs.Lists.{Includes}
use Rattle.spot_terms.proofs.ListLemmas.{all_included, all_of}
use Rattle.spot_terms.proofs.Ring.{ring, Exp, var, ◌⊕◌, ◌⊖◌, ◌⊗◌}
use Rattle.spot_terms.proofs.Orders.{difference_positive, irreflexive, zero_not_positive, sum_of_positives, product_positive}
use Rattle.convex_poly.specs.Chains.{key}
use Rattle.convex_poly.specs.Polygons.{IsPosition}
use Rattle.convex_poly.specs.Turns.{cross}
use Rattle.convex_poly.proofs.Chains.{positive_part}
use Rattle.convex_poly.proofs.Corners.{FanLeft, corner_fan}
use Rattle.convex_poly.proofs.Crosses.{cross_exp}
use Rattle.convex_poly.proofs.HullCorners.{far, before_key}
use Rattle.spot_terms.proofs.Places.{all_map}
use Rattle.spot_terms.proofs.OneHull.{cross_second}

-- each item differs from the later ones
abbrev pub IsDistinct : {X : Type 0} → List X → Type 0
IsDistinct [] = Unit {0}
IsDistinct (x ∷ xs) = AllByRecursion (λ y. x ≡ y → ⊥) xs × IsDistinct xs

-- ---- different items of a list are at most its length

-- a list without one place of x
record Without (x : Pt) (ys : List Pt) : Type 0 where
  rest : List Pt
  size : length ys ≡ suc (length rest)
  other : (y : Pt) → Includes ys y → (x ≡ y → ⊥) → Includes rest y

without : (x : Pt) (ys : List Pt) → Includes ys x → Without x ys
without x [] i = absurd i
without x (y ∷ ys) (inl e) = record { rest = ys; size = refl; other = λ z i n. elim i [ inl f ↦ absurd (n (e ∙ sym f)) | inr j ↦ j ] }
without x (y ∷ ys) (inr i) = let w = without x ys i in record {
  rest = y ∷ w.rest;
  size = ap (λ n. suc n) w.size;
  other = λ z j n. elim j [ inl f ↦ inl f | inr k ↦ inr (w.other z k n) ];
}

others_in : (x : Pt) (ys xs : List Pt) (w : Without x ys) → AllByRecursion (λ y. x ≡ y → ⊥) xs → AllByRecursion (Includes ys) xs → AllByRecursion (Includes w.rest) xs
others_in x ys [] w d h = tt
others_in x ys (z ∷ xs) w d h = (w.other z h.0 d.0, others_in x ys xs w d.1 h.1)

pub distinct_few : (xs ys : List Pt) → IsDistinct xs → AllByRecursion (Includes ys) xs → length xs ≤ length ys
distinct_few [] ys d h = omega arith
distinct_few (x ∷ xs) ys d h =
    let w = without x ys h.0 in
    let k : length xs ≤ length w.rest = distinct_few xs w.rest d.1 (others_in x ys xs w d.0 h.1) in
    omega (arith, w.size)

-- ---- the corners differ

-- of three points after o in the order of the key: the turns at o add up
fan_sum : (kx ky ox oy ax ay bx by cx cy : ℤ) → (((ax -ℤ ox) *ℤ (cy -ℤ oy)) -ℤ ((ay -ℤ oy) *ℤ (cx -ℤ ox))) *ℤ (((kx *ℤ bx) +ℤ (ky *ℤ by)) -ℤ ((kx *ℤ ox) +ℤ (ky *ℤ oy)))
    ≡ ((((ax -ℤ ox) *ℤ (by -ℤ oy)) -ℤ ((ay -ℤ oy) *ℤ (bx -ℤ ox))) *ℤ (((kx *ℤ cx) +ℤ (ky *ℤ cy)) -ℤ ((kx *ℤ ox) +ℤ (ky *ℤ oy)))) +ℤ ((((bx -ℤ ox) *ℤ (cy -ℤ oy)) -ℤ ((by -ℤ oy) *ℤ (cx -ℤ ox))) *ℤ (((kx *ℤ ax) +ℤ (ky *ℤ ay)) -ℤ ((kx *ℤ ox) +ℤ (ky *ℤ oy))))
fan_sum kx ky ox oy ax ay bx by cx cy =
    let K : Exp → Exp → Exp = λ x y. (var 0 ⊗ x) ⊕ (var 1 ⊗ y) in
    ring (kx ∷ ky ∷ ox ∷ oy ∷ ax ∷ ay ∷ bx ∷ by ∷ cx ∷ cy ∷ [])
    (cross_exp (var 2) (var 3) (var 4) (var 5) (var 8) (var 9) ⊗ (K (var 6) (var 7) ⊖ K (var 2) (var 3)))
    ((cross_exp (var 2) (var 3) (var 4) (var 5) (var 6) (var 7) ⊗ (K (var 8) (var 9) ⊖ K (var 2) (var 3))) ⊕ (cross_exp (var 2) (var 3) (var 6) (var 7) (var 8) (var 9) ⊗ (K (var 4) (var 5) ⊖ K (var 2) (var 3)))) refl

-- the point comes after o by its key
abbrev pub IsAfter : Pt → Pt → Type 0
IsAfter o a = key far (pos 1) o <ℤ key far (pos 1) a

fan_on : (o a b c : Pt) → IsAfter o a → IsAfter o b → IsAfter o c → pos 0 <ℤ cross o a b → pos 0 <ℤ cross o b c → pos 0 <ℤ cross o a c
fan_on o a b c ha hb hc ab bc =
    positive_part (cross o a c) (key far (pos 1) b -ℤ key far (pos 1) o) (difference_positive (key far (pos 1) o) (key far (pos 1) b) hb)
    (subst (λ z. pos 0 <ℤ z) (sym (fan_sum far (pos 1) o.x o.y a.x a.y b.x b.y c.x c.y))
    (sum_of_positives _ _ (product_positive _ _ ab (difference_positive (key far (pos 1) o) (key far (pos 1) c) hc)) (product_positive _ _ bc (difference_positive (key far (pos 1) o) (key far (pos 1) a) ha))))

fan_each : (o a b : Pt) (cs : List Pt) → IsAfter o a → IsAfter o b → AllByRecursion (IsAfter o) cs → pos 0 <ℤ cross o a b → AllByRecursion (λ c. pos 0 <ℤ cross o b c) cs → AllByRecursion (λ c. pos 0 <ℤ cross o a c) cs
fan_each o a b [] ha hb hc ab h = tt
fan_each o a b (c ∷ cs) ha hb hc ab h = (fan_on o a b c ha hb hc.0 ab h.0, fan_each o a b cs ha hb hc.1 ab h.1)

pub fan_all : (o a : Pt) (bs : List Pt) → IsAfter o a → AllByRecursion (IsAfter o) bs → FanLeft o a bs → AllByRecursion (λ b. pos 0 <ℤ cross o a b) bs
fan_all o a [] ha hb f = tt
fan_all o a (b ∷ bs) ha hb f = (f.0, fan_each o a b bs ha hb.0 hb.1 f.0 (fan_all o b bs hb.0 hb.1 f.1))

fan_distinct : (o a : Pt) (bs : List Pt) → IsAfter o a → AllByRecursion (IsAfter o) bs → FanLeft o a bs → IsDistinct (a ∷ bs)
fan_distinct o a [] ha hb f = (tt, tt)
fan_distinct o a (b ∷ bs) ha hb f = (
  all_map (λ c. pos 0 <ℤ cross o a c) (λ c. a ≡ c → ⊥) (λ c h e. zero_not_positive (cross o a c) (ap (λ (z : Pt). cross o a z) (sym e) ∙ cross_second o a) h) (b ∷ bs) (fan_all o a (b ∷ bs) ha hb f),
  fan_distinct o b bs hb.0 hb.1 f.1,
)

pub after_all : (o : Pt) (bs : List Pt) → IsPosition o → AllByRecursion IsPosition bs → AllByRecursion (Before o) bs → AllByRecursion (IsAfter o) bs
after_all o [] p h k = tt
after_all o (b ∷ bs) p h k = (before_key o b p h.0 k.0, after_all o bs p h.1 k.1)

after_distinct : (o : Pt) (bs : List Pt) → AllByRecursion (IsAfter o) bs → AllByRecursion (λ b. o ≡ b → ⊥) bs
after_distinct o bs h = all_map (IsAfter o) (λ b. o ≡ b → ⊥) (λ b k e. irreflexive (key far (pos 1) o) (subst (λ (z : Pt). key far (pos 1) o <ℤ key far (pos 1) z) (sym e) k)) bs h

-- the corners are different points
pub corners_distinct : (vs : List Pt) → AllByRecursion IsPosition vs → IsCornerList vs → IsDistinct vs
corners_distinct [] p c = absurd c
corners_distinct (o ∷ []) p c = (tt, tt)
corners_distinct (o ∷ a ∷ bs) p c =
    let after = after_all o (a ∷ bs) p.0 p.1 c.0 in
    (after_distinct o (a ∷ bs) after, fan_distinct o a bs after.0 after.1 (corner_fan o a bs c))

-- the hull of n points has at most n corners
pub few_points : (points corners : List Pt) → AllByRecursion IsPosition points → IsHullOf points corners → length corners ≤ length points
few_points points corners p h =
    distinct_few corners points (corners_distinct corners (all_of IsPosition corners (λ c i. all_included IsPosition points c p (all_included (Includes points) corners c h.among i))) h.ordered) h.among

-- what `hull` asks for, of at most 20 points
pub few_corners : (points : List Pt) → AllByRecursion IsPosition points → length points ≤ 20 → (corners : List Pt) → IsHullOf points corners → length corners ≤ 20
few_corners points p h corners u = let k = few_points points corners p u in omega (arith, k, h)
