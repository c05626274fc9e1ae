-- The clearance of two vectors, by what is computed.
use Rattle.std.proofs.Common.{◌≡◌, ℕ, ◌+◌, ◌*◌, ◌/◌, ◌≤◌, ◌<◌, arith, refl, sym, ap, ◌∙◌, subst, [], ◌∷◌, inl, inr, mul-le-mul_left}
use Rattle.std.proofs.lemmas.Int.{ints}
use lib.IntN.{ℤ, pos, negsuc, ◌+ℤ◌, ◌-ℤ◌, ◌*ℤ◌}
use lib.Signed.{◌≤ℤ◌, ◌<ℤ◌}
use Rattle.spot_terms.specs.declared.plain.Pt.{Pt}
use Rattle.spot_terms.proofs.Products.{square_not_negative}
use Rattle.spot_terms.proofs.Ring.{ring, Exp, var, num, ◌⊕◌, ◌⊖◌, ◌⊗◌}
use Rattle.spot_terms.proofs.Orders.{sum_not_negative, sum_swap, product_not_negative, factor_not_negative, below_or_at_least, at_most_of_difference, difference_not_negative}
use Rattle.convex_poly.specs.Vectors.{turn_of, inner_product}
use Rattle.lane_paths.specs.Clearances.{norm, StaysOff, IsClearance}
use Rattle.lane_paths.proofs.Signs.{add_ok}

-- ---- fewer, and in the other order

-- what stays off by n stays off by less
pub off_down : (u v : Pt) (n q : ℕ) → StaysOff u v n → q ≤ n → StaysOff u v q
off_down u v n q o h a b ha hb = less (pos q) (pos n) (a +ℤ b) _ (omega (arith, ints)) (o a b ha hb)
  where
    less : (q n t M : ℤ) → q ≤ℤ n → (n *ℤ (t *ℤ t)) ≤ℤ M → (q *ℤ (t *ℤ t)) ≤ℤ M
    less q n t M h o =
        at_most_of_difference _ _ (add_ok (q *ℤ (t *ℤ t)) (n *ℤ (t *ℤ t)) M
        (subst (λ z. pos 0 ≤ℤ z) (ring (q ∷ n ∷ t ∷ []) ((var 1 ⊖ var 0) ⊗ (var 2 ⊗ var 2)) ((var 1 ⊗ (var 2 ⊗ var 2)) ⊖ (var 0 ⊗ (var 2 ⊗ var 2))) refl)
        (product_not_negative (n -ℤ q) (t *ℤ t) (difference_not_negative _ _ h) (square_not_negative t)))
        (difference_not_negative _ _ o))

-- a segment has no direction
pub off_swap : (u v : Pt) (n : ℕ) → StaysOff u v n → StaysOff v u n
off_swap u v n o a b ha hb =
    subst (λ z. (pos n *ℤ ((a +ℤ b) *ℤ (a +ℤ b))) ≤ℤ z) (same b a u.x v.x u.y v.y)
    (subst (λ z. (pos n *ℤ (z *ℤ z)) ≤ℤ norm ((b *ℤ u.x) +ℤ (a *ℤ v.x)) ((b *ℤ u.y) +ℤ (a *ℤ v.y))) (sum_swap b a) (o b a hb ha))
  where
    same : (s t x p y q : ℤ) → norm ((s *ℤ x) +ℤ (t *ℤ p)) ((s *ℤ y) +ℤ (t *ℤ q)) ≡ norm ((t *ℤ p) +ℤ (s *ℤ x)) ((t *ℤ q) +ℤ (s *ℤ y))
    same s t x p y q = ap (λ z. norm z ((s *ℤ y) +ℤ (t *ℤ q))) (sum_swap (s *ℤ x) (t *ℤ p)) ∙ ap (λ z. norm ((t *ℤ p) +ℤ (s *ℤ x)) z) (sum_swap (s *ℤ y) (t *ℤ q))

-- ---- the clearance where an end is nearest

-- a u + b v where the nearest point is u
near_first : (u v : Pt) (a b : ℤ) → pos 0 ≤ℤ a → pos 0 ≤ℤ b → inner_product u u ≤ℤ inner_product u v
    → pos 0 ≤ℤ (norm ((a *ℤ u.x) +ℤ (b *ℤ v.x)) ((a *ℤ u.y) +ℤ (b *ℤ v.y)) -ℤ (((a +ℤ b) *ℤ (a +ℤ b)) *ℤ inner_product u u))
near_first u v a b ha hb h =
    let e : norm ((a *ℤ u.x) +ℤ (b *ℤ v.x)) ((a *ℤ u.y) +ℤ (b *ℤ v.y)) -ℤ (((a +ℤ b) *ℤ (a +ℤ b)) *ℤ inner_product u u)
    ≡ ((((a +ℤ a) *ℤ b) +ℤ ((b +ℤ b) *ℤ b)) *ℤ (inner_product u v -ℤ inner_product u u)) +ℤ ((b *ℤ b) *ℤ norm (u.x -ℤ v.x) (u.y -ℤ v.y))
    = ring (a ∷ b ∷ u.x ∷ u.y ∷ v.x ∷ v.y ∷ [])
    (((((var 0 ⊗ var 2) ⊕ (var 1 ⊗ var 4)) ⊗ ((var 0 ⊗ var 2) ⊕ (var 1 ⊗ var 4))) ⊕ (((var 0 ⊗ var 3) ⊕ (var 1 ⊗ var 5)) ⊗ ((var 0 ⊗ var 3) ⊕ (var 1 ⊗ var 5))))
    ⊖ (((var 0 ⊕ var 1) ⊗ (var 0 ⊕ var 1)) ⊗ ((var 2 ⊗ var 2) ⊕ (var 3 ⊗ var 3))))
    (((((var 0 ⊕ var 0) ⊗ var 1) ⊕ ((var 1 ⊕ var 1) ⊗ var 1)) ⊗ (((var 2 ⊗ var 4) ⊕ (var 3 ⊗ var 5)) ⊖ ((var 2 ⊗ var 2) ⊕ (var 3 ⊗ var 3))))
    ⊕ ((var 1 ⊗ var 1) ⊗ (((var 2 ⊖ var 4) ⊗ (var 2 ⊖ var 4)) ⊕ ((var 3 ⊖ var 5) ⊗ (var 3 ⊖ var 5))))) refl in
    subst (λ z. pos 0 ≤ℤ z) (sym e) (sum_not_negative _ _
    (product_not_negative _ (inner_product u v -ℤ inner_product u u) (sum_not_negative _ _ (product_not_negative (a +ℤ a) b (sum_not_negative a a ha ha) hb) (product_not_negative (b +ℤ b) b (sum_not_negative b b hb hb) hb)) (difference_not_negative _ _ h))
    (product_not_negative (b *ℤ b) _ (square_not_negative b) (sum_not_negative _ _ (square_not_negative (u.x -ℤ v.x)) (square_not_negative (u.y -ℤ v.y)))))

-- where u is nearest, the clearance is u · u
pub clearance_first : (u v : Pt) (n : ℕ) → pos n ≡ inner_product u u → inner_product u u ≤ℤ inner_product u v → IsClearance u v n
clearance_first u v n e h = record {
  holds = λ a b ha hb. subst (λ z. (z *ℤ ((a +ℤ b) *ℤ (a +ℤ b))) ≤ℤ norm ((a *ℤ u.x) +ℤ (b *ℤ v.x)) ((a *ℤ u.y) +ℤ (b *ℤ v.y))) (sym e) (turned ((a +ℤ b) *ℤ (a +ℤ b)) (inner_product u u) _ (near_first u v a b ha hb h));
  greatest = λ q o. at_end q (o (pos 1) (pos 0) (omega (arith, ints)) (omega (arith, ints)));
}
  where
    turned : (t N M : ℤ) → pos 0 ≤ℤ (M -ℤ (t *ℤ N)) → (N *ℤ t) ≤ℤ M
    turned t N M k = at_most_of_difference _ _ (subst (λ z. pos 0 ≤ℤ (M -ℤ z)) (ring (t ∷ N ∷ []) (var 0 ⊗ var 1) (var 1 ⊗ var 0) refl) k)

    unfold_end : (x y p q : ℤ) → norm ((pos 1 *ℤ x) +ℤ (pos 0 *ℤ p)) ((pos 1 *ℤ y) +ℤ (pos 0 *ℤ q)) ≡ (x *ℤ x) +ℤ (y *ℤ y)
    unfold_end x y p q = ring (x ∷ y ∷ p ∷ q ∷ [])
        ((((num (pos 1) ⊗ var 0) ⊕ (num (pos 0) ⊗ var 2)) ⊗ ((num (pos 1) ⊗ var 0) ⊕ (num (pos 0) ⊗ var 2))) ⊕ (((num (pos 1) ⊗ var 1) ⊕ (num (pos 0) ⊗ var 3)) ⊗ ((num (pos 1) ⊗ var 1) ⊕ (num (pos 0) ⊗ var 3))))
        ((var 0 ⊗ var 0) ⊕ (var 1 ⊗ var 1)) refl

    at_end : (q : ℕ) → (pos q *ℤ ((pos 1 +ℤ pos 0) *ℤ (pos 1 +ℤ pos 0))) ≤ℤ norm ((pos 1 *ℤ u.x) +ℤ (pos 0 *ℤ v.x)) ((pos 1 *ℤ u.y) +ℤ (pos 0 *ℤ v.y)) → q ≤ n
    at_end q o = plain q n (subst (λ z. (pos q *ℤ ((pos 1 +ℤ pos 0) *ℤ (pos 1 +ℤ pos 0))) ≤ℤ z) (unfold_end u.x u.y v.x v.y ∙ sym e) o)
      where
        plain : (q n : ℕ) → (pos q *ℤ ((pos 1 +ℤ pos 0) *ℤ (pos 1 +ℤ pos 0))) ≤ℤ pos n → q ≤ n
        plain q n h = omega (arith, ints)

-- so it stays off by what is at most u · u
pub off_first : (u v : Pt) (n : ℕ) → pos n ≤ℤ inner_product u u → inner_product u u ≤ℤ inner_product u v → StaysOff u v n
off_first u v n low h = let (m, e, l) = natural n (inner_product u u) low in off_down u v m n (clearance_first u v m e h).holds l
  where
    natural : (n : ℕ) (z : ℤ) → pos n ≤ℤ z → (m : ℕ) × (pos m ≡ z) × (n ≤ m)
    natural n (pos m) k = (m, refl, omega (arith, ints, k))
    natural n (negsuc m) k = absurd (omega (arith, ints, k))

-- ---- the clearance where the nearest point is inside

-- the squared length of the segment
abbrev pub gauge : Pt → Pt → ℤ
gauge u v = (inner_product u u -ℤ inner_product u v) +ℤ (inner_product v v -ℤ inner_product u v)

-- the squared length times the squared distance of a u + b v: a square above its least
inside_off : (u v : Pt) (a b : ℤ) → gauge u v *ℤ norm ((a *ℤ u.x) +ℤ (b *ℤ v.x)) ((a *ℤ u.y) +ℤ (b *ℤ v.y))
    ≡ (((a +ℤ b) *ℤ (a +ℤ b)) *ℤ (turn_of u v *ℤ turn_of u v))
    +ℤ (((((a *ℤ u.x) +ℤ (b *ℤ v.x)) *ℤ (v.x -ℤ u.x)) +ℤ (((a *ℤ u.y) +ℤ (b *ℤ v.y)) *ℤ (v.y -ℤ u.y))) *ℤ ((((a *ℤ u.x) +ℤ (b *ℤ v.x)) *ℤ (v.x -ℤ u.x)) +ℤ (((a *ℤ u.y) +ℤ (b *ℤ v.y)) *ℤ (v.y -ℤ u.y))))
inside_off u v a b =
    let P : Exp = (var 0 ⊗ var 2) ⊕ (var 1 ⊗ var 4) in
    let Q : Exp = (var 0 ⊗ var 3) ⊕ (var 1 ⊗ var 5) in
    let uu : Exp = (var 2 ⊗ var 2) ⊕ (var 3 ⊗ var 3) in
    let uv : Exp = (var 2 ⊗ var 4) ⊕ (var 3 ⊗ var 5) in
    let vv : Exp = (var 4 ⊗ var 4) ⊕ (var 5 ⊗ var 5) in
    let C : Exp = (var 2 ⊗ var 5) ⊖ (var 3 ⊗ var 4) in
    let D : Exp = (P ⊗ (var 4 ⊖ var 2)) ⊕ (Q ⊗ (var 5 ⊖ var 3)) in
    ring (a ∷ b ∷ u.x ∷ u.y ∷ v.x ∷ v.y ∷ []) (((uu ⊖ uv) ⊕ (vv ⊖ uv)) ⊗ ((P ⊗ P) ⊕ (Q ⊗ Q))) ((((var 0 ⊕ var 1) ⊗ (var 0 ⊕ var 1)) ⊗ (C ⊗ C)) ⊕ (D ⊗ D)) refl

-- the point nearest to 0 reaches it
inside_norm : (u v : Pt) → norm (((inner_product v v -ℤ inner_product u v) *ℤ u.x) +ℤ ((inner_product u u -ℤ inner_product u v) *ℤ v.x)) (((inner_product v v -ℤ inner_product u v) *ℤ u.y) +ℤ ((inner_product u u -ℤ inner_product u v) *ℤ v.y))
    ≡ gauge u v *ℤ (turn_of u v *ℤ turn_of u v)
inside_norm u v =
    let uu : Exp = (var 0 ⊗ var 0) ⊕ (var 1 ⊗ var 1) in
    let uv : Exp = (var 0 ⊗ var 2) ⊕ (var 1 ⊗ var 3) in
    let vv : Exp = (var 2 ⊗ var 2) ⊕ (var 3 ⊗ var 3) in
    let C : Exp = (var 0 ⊗ var 3) ⊖ (var 1 ⊗ var 2) in
    let P : Exp = ((vv ⊖ uv) ⊗ var 0) ⊕ ((uu ⊖ uv) ⊗ var 2) in
    let Q : Exp = ((vv ⊖ uv) ⊗ var 1) ⊕ ((uu ⊖ uv) ⊗ var 3) in
    ring (u.x ∷ u.y ∷ v.x ∷ v.y ∷ []) ((P ⊗ P) ⊕ (Q ⊗ Q)) (((uu ⊖ uv) ⊕ (vv ⊖ uv)) ⊗ (C ⊗ C)) refl

-- ---- quotients

-- what is at most the quotient, times the divisor
quotient_low : (m e n : ℕ) → 0 < e → n ≤ m / e → e * n ≤ m
quotient_low m e n h k = let g : e * n ≤ e * (m / e) = mul-le-mul_left e k in omega arith

quotient_high : (m e n : ℕ) → 0 < e → e * n ≤ m → n ≤ m / e
quotient_high m e n h k = elim (below_or_at_least (m / e) n) [ inl g ↦ absurd (let f : e * (m / e + 1) ≤ e * n = mul-le-mul_left e (next (m / e) n g) in omega arith) | inr g ↦ g ]
  where
    next : (a b : ℕ) → a < b → a + 1 ≤ b
    next a b h = omega arith

-- where no end is nearest, the clearance is the squared turn by the squared length
pub clearance_inside : (u v : Pt) (m e : ℕ) → 0 < e → pos m ≡ turn_of u v *ℤ turn_of u v → pos e ≡ gauge u v → inner_product u v ≤ℤ inner_product u u → inner_product u v ≤ℤ inner_product v v → IsClearance u v (m / e)
clearance_inside u v m e he hm hg hu hv = record {
  holds = λ a b ha hb. stays a b;
  greatest = λ q o. quotient_high m e q he (most q (o (inner_product v v -ℤ inner_product u v) (inner_product u u -ℤ inner_product u v) (difference_not_negative _ _ hv) (difference_not_negative _ _ hu)));
}
  where
    low : e * (m / e) ≤ m
    low = quotient_low m e (m / e) he (itself (m / e))
      where
        itself : (n : ℕ) → n ≤ n
        itself n = omega arith

    plain_low : (e m n : ℕ) → e * n ≤ m → pos 0 ≤ℤ (pos m -ℤ (pos e *ℤ pos n))
    plain_low e m n h = omega (arith, ints)

    stays : (a b : ℤ) → (pos (m / e) *ℤ ((a +ℤ b) *ℤ (a +ℤ b))) ≤ℤ norm ((a *ℤ u.x) +ℤ (b *ℤ v.x)) ((a *ℤ u.y) +ℤ (b *ℤ v.y))
    stays a b = finish (pos (m / e)) (a +ℤ b) (norm ((a *ℤ u.x) +ℤ (b *ℤ v.x)) ((a *ℤ u.y) +ℤ (b *ℤ v.y))) (gauge u v) (turn_of u v *ℤ turn_of u v) _
        (subst (λ z. pos 0 <ℤ z) hg (omega (arith, ints))) (subst (λ z. pos 0 ≤ℤ (z -ℤ (gauge u v *ℤ pos (m / e)))) hm (subst (λ z. pos 0 ≤ℤ (pos m -ℤ (z *ℤ pos (m / e)))) hg (plain_low e m (m / e) low)))
        (inside_off u v a b)
      where
        finish : (N t M E C D : ℤ) → pos 0 <ℤ E → pos 0 ≤ℤ (C -ℤ (E *ℤ N)) → E *ℤ M ≡ ((t *ℤ t) *ℤ C) +ℤ (D *ℤ D) → (N *ℤ (t *ℤ t)) ≤ℤ M
        finish N t M E C D hE h k =
            at_most_of_difference _ _ (factor_not_negative E (M -ℤ (N *ℤ (t *ℤ t))) hE
            (subst (λ z. pos 0 ≤ℤ z) (sym (ring (E ∷ M ∷ N ∷ t ∷ []) (var 0 ⊗ (var 1 ⊖ (var 2 ⊗ (var 3 ⊗ var 3)))) ((var 0 ⊗ var 1) ⊖ ((var 0 ⊗ var 2) ⊗ (var 3 ⊗ var 3))) refl))
            (join (E *ℤ M) ((t *ℤ t) *ℤ C) (D *ℤ D) ((E *ℤ N) *ℤ (t *ℤ t)) k (square_not_negative D)
            (subst (λ z. pos 0 ≤ℤ z) (ring (t ∷ C ∷ E ∷ N ∷ []) ((var 0 ⊗ var 0) ⊗ (var 1 ⊖ (var 2 ⊗ var 3))) (((var 0 ⊗ var 0) ⊗ var 1) ⊖ ((var 2 ⊗ var 3) ⊗ (var 0 ⊗ var 0))) refl)
            (product_not_negative (t *ℤ t) (C -ℤ (E *ℤ N)) (square_not_negative t) h)))))
          where
            join : (s p d q : ℤ) → s ≡ p +ℤ d → pos 0 ≤ℤ d → pos 0 ≤ℤ (p -ℤ q) → pos 0 ≤ℤ (s -ℤ q)
            join s p d q e h k = omega (arith, ints)

    most : (q : ℕ) → (pos q *ℤ (((inner_product v v -ℤ inner_product u v) +ℤ (inner_product u u -ℤ inner_product u v)) *ℤ ((inner_product v v -ℤ inner_product u v) +ℤ (inner_product u u -ℤ inner_product u v)))) ≤ℤ norm (((inner_product v v -ℤ inner_product u v) *ℤ u.x) +ℤ ((inner_product u u -ℤ inner_product u v) *ℤ v.x)) (((inner_product v v -ℤ inner_product u v) *ℤ u.y) +ℤ ((inner_product u u -ℤ inner_product u v) *ℤ v.y)) → e * q ≤ m
    most q o =
        plain e m q (at_most_of_difference _ _ (subst (λ z. pos 0 ≤ℤ (z -ℤ (pos e *ℤ pos q))) (sym hm) (subst (λ z. pos 0 ≤ℤ ((turn_of u v *ℤ turn_of u v) -ℤ (z *ℤ pos q))) (sym hg)
        (cut (pos q) (gauge u v) (turn_of u v *ℤ turn_of u v) ((inner_product v v -ℤ inner_product u v) +ℤ (inner_product u u -ℤ inner_product u v)) _ (sum_swap (inner_product v v -ℤ inner_product u v) (inner_product u u -ℤ inner_product u v)) (inside_norm u v) (subst (λ z. pos 0 <ℤ z) hg (omega (arith, ints))) o))))
      where
        plain : (e m q : ℕ) → (pos e *ℤ pos q) ≤ℤ pos m → e * q ≤ m
        plain e m q h = omega (arith, ints)

        cut : (q E C t M : ℤ) → t ≡ E → M ≡ E *ℤ C → pos 0 <ℤ E → (q *ℤ (t *ℤ t)) ≤ℤ M → pos 0 ≤ℤ (C -ℤ (E *ℤ q))
        cut q E C t M e f hE o =
            factor_not_negative E (C -ℤ (E *ℤ q)) hE
            (subst (λ z. pos 0 ≤ℤ z) (ring (E ∷ C ∷ q ∷ []) ((var 0 ⊗ var 1) ⊖ (var 2 ⊗ (var 0 ⊗ var 0))) (var 0 ⊗ (var 1 ⊖ (var 0 ⊗ var 2))) refl)
            (difference_not_negative _ _ (subst (λ z. (q *ℤ (E *ℤ E)) ≤ℤ z) f (subst (λ z. (q *ℤ (z *ℤ z)) ≤ℤ M) e o))))

-- an inner product has no order
pub inner_product_swap : (u v : Pt) → inner_product u v ≡ inner_product v u
inner_product_swap u v = ring (u.x ∷ u.y ∷ v.x ∷ v.y ∷ []) ((var 0 ⊗ var 2) ⊕ (var 1 ⊗ var 3)) ((var 2 ⊗ var 0) ⊕ (var 3 ⊗ var 1)) refl
