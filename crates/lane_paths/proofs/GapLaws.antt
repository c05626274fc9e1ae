-- The root of the least clearance of two differences is the gap of the two lists, where they have no common point.
use Rattle.std.proofs.Common.{◌≡◌, ℕ, zero, suc, ◌+◌, ◌*◌, ◌≤◌, ◌<◌, arith, refl, sym, ap, ◌∙◌, subst, List, [], ◌∷◌, inl, inr}
use Rattle.std.proofs.lemmas.Int.{ints}
use lib.IntN.{ℤ, pos, negsuc, ◌+ℤ◌, ◌-ℤ◌, ◌*ℤ◌}
use lib.Signed.{◌≤ℤ◌, ◌<ℤ◌}
use Rattle.spot_terms.specs.declared.plain.Pt.{Pt}
use Rattle.spot_terms.specs.Lists.{Includes}
use Rattle.spot_terms.specs.Whole.{square, IsRootFloor}
use Rattle.spot_terms.specs.Bodies.{IsGreatest}
use Rattle.spot_terms.specs.Gaps.{KeepsApart}
use Rattle.spot_terms.specs.Hull.{InHullAt}
use Rattle.spot_terms.proofs.Hulls.{hull_mix_at, mix_hull_at}
use Rattle.spot_terms.proofs.Mixes.{Mix, mix_add, mix_scale, mix_to, mix_included, positive_times}
use Rattle.spot_terms.proofs.Products.{square_not_negative, square_of_size}
use Rattle.spot_terms.proofs.Ring.{ring, var, num, ◌⊕◌, ◌⊖◌, ◌⊗◌}
use Rattle.spot_terms.proofs.Roots.{root_order}
use Rattle.spot_terms.proofs.Orders.{positive_natural, product_not_negative, factor_not_negative, square_positive, at_most_of_difference, difference_not_negative}
use Rattle.convex_poly.specs.Pivots.{differences}
use Rattle.convex_poly.proofs.Differences.{to_differences, from_differences}
use Rattle.convex_poly.proofs.Ways.{Meets0}
use Rattle.lane_paths.specs.Clearances.{norm, StaysOff, IsLeastClearance}
use Rattle.lane_paths.proofs.HullClearances.{hull_off}
use Rattle.lane_paths.proofs.ClearanceLaws.{off_down}

-- ---- no two points are nearer

-- the difference of the fractions, times the weights
gap_line : (S T p q : ℤ) (d e X P : ℤ) → S *ℤ p ≡ d *ℤ X → T *ℤ q ≡ e *ℤ P → (S *ℤ T) *ℤ ((q *ℤ d) -ℤ (p *ℤ e)) ≡ (pos 0 -ℤ (d *ℤ e)) *ℤ ((T *ℤ X) -ℤ (S *ℤ P))
gap_line S T p q d e X P h k =
    ring (S ∷ T ∷ p ∷ q ∷ d ∷ e ∷ []) ((var 0 ⊗ var 1) ⊗ ((var 3 ⊗ var 4) ⊖ (var 2 ⊗ var 5))) (((var 0 ⊗ var 4) ⊗ (var 1 ⊗ var 3)) ⊖ ((var 1 ⊗ var 5) ⊗ (var 0 ⊗ var 2))) refl
    ∙ ap (λ z. ((S *ℤ d) *ℤ z) -ℤ ((T *ℤ e) *ℤ (S *ℤ p))) k
    ∙ ap (λ z. ((S *ℤ d) *ℤ (e *ℤ P)) -ℤ ((T *ℤ e) *ℤ z)) h
    ∙ ring (S ∷ T ∷ d ∷ e ∷ X ∷ P ∷ []) (((var 0 ⊗ var 2) ⊗ (var 3 ⊗ var 5)) ⊖ ((var 1 ⊗ var 3) ⊗ (var 2 ⊗ var 4))) ((num (pos 0) ⊖ (var 2 ⊗ var 3)) ⊗ ((var 1 ⊗ var 4) ⊖ (var 0 ⊗ var 5))) refl

-- a bound of the differences (M, N) times e, by t, is one of (A, B)
scaled : (S t e A B M N : ℤ) → pos 0 <ℤ t → t *ℤ A ≡ (pos 0 -ℤ e) *ℤ M → t *ℤ B ≡ (pos 0 -ℤ e) *ℤ N → (S *ℤ (t *ℤ t)) ≤ℤ norm M N → (S *ℤ (e *ℤ e)) ≤ℤ norm A B
scaled S t e A B M N ht ha hb o =
    at_most_of_difference _ _ (factor_not_negative (t *ℤ t) (norm A B -ℤ (S *ℤ (e *ℤ e))) (square_positive t ht) (subst (λ z. pos 0 ≤ℤ z) (sym same) (product_not_negative (e *ℤ e) (norm M N -ℤ (S *ℤ (t *ℤ t))) (square_not_negative e) (difference_not_negative _ _ o))))
  where
    same : (t *ℤ t) *ℤ (norm A B -ℤ (S *ℤ (e *ℤ e))) ≡ (e *ℤ e) *ℤ (norm M N -ℤ (S *ℤ (t *ℤ t)))
    same = ring (t ∷ A ∷ B ∷ S ∷ e ∷ []) ((var 0 ⊗ var 0) ⊗ (((var 1 ⊗ var 1) ⊕ (var 2 ⊗ var 2)) ⊖ (var 3 ⊗ (var 4 ⊗ var 4))))
        ((((var 0 ⊗ var 1) ⊗ (var 0 ⊗ var 1)) ⊕ ((var 0 ⊗ var 2) ⊗ (var 0 ⊗ var 2))) ⊖ ((var 0 ⊗ var 0) ⊗ (var 3 ⊗ (var 4 ⊗ var 4)))) refl
        ∙ ap (λ z. ((z *ℤ z) +ℤ ((t *ℤ B) *ℤ (t *ℤ B))) -ℤ ((t *ℤ t) *ℤ (S *ℤ (e *ℤ e)))) ha
        ∙ ap (λ z. ((((pos 0 -ℤ e) *ℤ M) *ℤ ((pos 0 -ℤ e) *ℤ M)) +ℤ (z *ℤ z)) -ℤ ((t *ℤ t) *ℤ (S *ℤ (e *ℤ e)))) hb
        ∙ ring (t ∷ M ∷ N ∷ S ∷ e ∷ []) (((((num (pos 0) ⊖ var 4) ⊗ var 1) ⊗ ((num (pos 0) ⊖ var 4) ⊗ var 1)) ⊕ (((num (pos 0) ⊖ var 4) ⊗ var 2) ⊗ ((num (pos 0) ⊖ var 4) ⊗ var 2))) ⊖ ((var 0 ⊗ var 0) ⊗ (var 3 ⊗ (var 4 ⊗ var 4))))
        ((var 4 ⊗ var 4) ⊗ (((var 1 ⊗ var 1) ⊕ (var 2 ⊗ var 2)) ⊖ (var 3 ⊗ (var 0 ⊗ var 0)))) refl

-- the inequality of whole numbers that the definition states
stated : (w d e : ℕ) (A B : ℤ) → (pos (w * w) *ℤ ((pos d *ℤ pos e) *ℤ (pos d *ℤ pos e))) ≤ℤ norm A B → (w * d * e) * (w * d * e) ≤ square A + square B
stated w d e A B o = plain w d e (square A) (square B) (subst (λ z. (pos (w * w) *ℤ ((pos d *ℤ pos e) *ℤ (pos d *ℤ pos e))) ≤ℤ (z +ℤ pos (square B))) (square_of_size A)
    (subst (λ z. (pos (w * w) *ℤ ((pos d *ℤ pos e) *ℤ (pos d *ℤ pos e))) ≤ℤ ((A *ℤ A) +ℤ z)) (square_of_size B) o))
  where
    plain : (w d e m n : ℕ) → (pos (w * w) *ℤ ((pos d *ℤ pos e) *ℤ (pos d *ℤ pos e))) ≤ℤ (pos m +ℤ pos n) → (w * d * e) * (w * d * e) ≤ m + n
    plain w d e m n h = let g : (w * w) * ((d * e) * (d * e)) ≤ m + n = omega (arith, ints, h) in omega (arith, g)

-- what each segment between two differences keeps off 0, the lists keep from each other
pub keeps_apart : (a b : List Pt) (w : ℕ) → (Meets0 (differences a b) → ⊥) → ((u v : Pt) → Includes (differences a b) u → Includes (differences a b) v → StaysOff u v (w * w)) → KeepsApart a b w
keeps_apart a b w never off p q hp hq ip iq =
    let m = hull_mix_at a p ip in
    let n = hull_mix_at b q iq in
    elim (hull_off (differences a b) (m.n * n.n) ((pos n.n *ℤ m.X) -ℤ (pos m.n *ℤ n.X)) ((pos n.n *ℤ m.Y) -ℤ (pos m.n *ℤ n.Y)) (w * w) (positive_times m.n n.n m.some n.some) off (to_differences a b m.n n.n m.X m.Y n.X n.Y m.mix n.mix)) [
      | inr z ↦ absurd (never z)
      | inl o ↦ stated w p.d q.d ((q.x *ℤ pos p.d) -ℤ (p.x *ℤ pos q.d)) ((q.y *ℤ pos p.d) -ℤ (p.y *ℤ pos q.d))
          (scaled (pos (w * w)) (pos (m.n * n.n)) (pos p.d *ℤ pos q.d) ((q.x *ℤ pos p.d) -ℤ (p.x *ℤ pos q.d)) ((q.y *ℤ pos p.d) -ℤ (p.y *ℤ pos q.d)) ((pos n.n *ℤ m.X) -ℤ (pos m.n *ℤ n.X)) ((pos n.n *ℤ m.Y) -ℤ (pos m.n *ℤ n.Y))
          (positive_natural (m.n * n.n) (positive_times m.n n.n m.some n.some))
          (gap_line (pos m.n) (pos n.n) p.x q.x (pos p.d) (pos q.d) m.X n.X m.x n.x)
          (gap_line (pos m.n) (pos n.n) p.y q.y (pos p.d) (pos q.d) m.Y n.Y m.y n.y) o)
    ]

-- ---- what keeps the lists apart keeps the segments off

-- and back
shown : (w d : ℕ) (A B : ℤ) → (w * d * d) * (w * d * d) ≤ square A + square B → (pos (w * w) *ℤ ((pos d *ℤ pos d) *ℤ (pos d *ℤ pos d))) ≤ℤ norm A B
shown w d A B o = subst (λ z. (pos (w * w) *ℤ ((pos d *ℤ pos d) *ℤ (pos d *ℤ pos d))) ≤ℤ (z +ℤ (B *ℤ B))) (sym (square_of_size A))
    (subst (λ z. (pos (w * w) *ℤ ((pos d *ℤ pos d) *ℤ (pos d *ℤ pos d))) ≤ℤ (pos (square A) +ℤ z)) (sym (square_of_size B)) (plain w d (square A) (square B) o))
  where
    plain : (w d m n : ℕ) → (w * d * d) * (w * d * d) ≤ m + n → (pos (w * w) *ℤ ((pos d *ℤ pos d) *ℤ (pos d *ℤ pos d))) ≤ℤ (pos m +ℤ pos n)
    plain w d m n h = let g : (w * w) * ((d * d) * (d * d)) ≤ m + n = omega (arith, h) in omega (arith, ints, g)

-- weighted points of sum W lie in the hull at the fraction with divisor W
mean_at : (vs : List Pt) (W : ℕ) (X Y : ℤ) → 0 < W → Mix vs W X Y → InHullAt vs (record { x = X; y = Y; d = W })
mean_at vs W X Y h m = mix_hull_at vs (record { x = X; y = Y; d = W }) (record { n = W; X = X; Y = Y; some = h; mix = m; x = refl; y = refl })

-- two weighted points of equal weights keep as far as the sets
weighted_off : (a b : List Pt) (w W : ℕ) (X Y : ℤ) → KeepsApart a b w → 0 < W → Mix (differences a b) W X Y → (pos (w * w) *ℤ (pos W *ℤ pos W)) ≤ℤ norm X Y
weighted_off a b w W X Y k h m =
    let r = from_differences a b W X Y m in
    finish (pos (w * w)) (pos W) r.px r.py r.qx r.qy X Y (positive_natural W h) r.x r.y
    (shown w W ((r.qx *ℤ pos W) -ℤ (r.px *ℤ pos W)) ((r.qy *ℤ pos W) -ℤ (r.py *ℤ pos W))
    (k (record { x = r.px; y = r.py; d = W }) (record { x = r.qx; y = r.qy; d = W }) (omega arith) (omega arith) (mean_at a W r.px r.py h r.in_p) (mean_at b W r.qx r.qy h r.in_q)))
  where
    finish : (S t p q P Q X Y : ℤ) → pos 0 <ℤ t → X ≡ p -ℤ P → Y ≡ q -ℤ Q → (S *ℤ ((t *ℤ t) *ℤ (t *ℤ t))) ≤ℤ norm ((P *ℤ t) -ℤ (p *ℤ t)) ((Q *ℤ t) -ℤ (q *ℤ t)) → (S *ℤ (t *ℤ t)) ≤ℤ norm X Y
    finish S t p q P Q X Y ht e f o =
        at_most_of_difference _ _ (factor_not_negative (t *ℤ t) (norm X Y -ℤ (S *ℤ (t *ℤ t))) (square_positive t ht)
        (subst (λ z. pos 0 ≤ℤ z)
        (ring (S ∷ t ∷ p ∷ q ∷ P ∷ Q ∷ [])
        (((((var 4 ⊗ var 1) ⊖ (var 2 ⊗ var 1)) ⊗ ((var 4 ⊗ var 1) ⊖ (var 2 ⊗ var 1))) ⊕ (((var 5 ⊗ var 1) ⊖ (var 3 ⊗ var 1)) ⊗ ((var 5 ⊗ var 1) ⊖ (var 3 ⊗ var 1)))) ⊖ (var 0 ⊗ ((var 1 ⊗ var 1) ⊗ (var 1 ⊗ var 1))))
        ((var 1 ⊗ var 1) ⊗ ((((var 2 ⊖ var 4) ⊗ (var 2 ⊖ var 4)) ⊕ ((var 3 ⊖ var 5) ⊗ (var 3 ⊖ var 5))) ⊖ (var 0 ⊗ (var 1 ⊗ var 1)))) refl
        ∙ ap (λ z. (t *ℤ t) *ℤ (((z *ℤ z) +ℤ ((q -ℤ Q) *ℤ (q -ℤ Q))) -ℤ (S *ℤ (t *ℤ t)))) (sym e)
        ∙ ap (λ z. (t *ℤ t) *ℤ (((X *ℤ X) +ℤ (z *ℤ z)) -ℤ (S *ℤ (t *ℤ t)))) (sym f))
        (difference_not_negative _ _ o)))

-- m times u and n times v
two : (a b : List Pt) (u v : Pt) (m n : ℕ) → Includes (differences a b) u → Includes (differences a b) v → Mix (differences a b) (m + n) ((pos m *ℤ u.x) +ℤ (pos n *ℤ v.x)) ((pos m *ℤ u.y) +ℤ (pos n *ℤ v.y))
two a b u v m n iu iv = mix_to (differences a b) (m * 1 + n * 1) (m + n) _ _ _ _ (omega arith) refl refl
    (mix_add (differences a b) (m * 1) (n * 1) _ _ _ _ (mix_scale (differences a b) m 1 u.x u.y (mix_included (differences a b) u iu)) (mix_scale (differences a b) n 1 v.x v.y (mix_included (differences a b) v iv)))

-- what the lists keep from each other, each segment between two differences keeps off 0
pub stays_off : (a b : List Pt) (w : ℕ) (u v : Pt) → KeepsApart a b w → Includes (differences a b) u → Includes (differences a b) v → StaysOff u v (w * w)
stays_off a b w u v k iu iv (pos zero) (pos zero) ha hb = subst (λ z. z ≤ℤ norm ((pos 0 *ℤ u.x) +ℤ (pos 0 *ℤ v.x)) ((pos 0 *ℤ u.y) +ℤ (pos 0 *ℤ v.y))) (sym (none (pos (w * w)))) (ok ((pos 0 *ℤ u.x) +ℤ (pos 0 *ℤ v.x)) ((pos 0 *ℤ u.y) +ℤ (pos 0 *ℤ v.y)))
  where
    none : (z : ℤ) → z *ℤ ((pos 0 +ℤ pos 0) *ℤ (pos 0 +ℤ pos 0)) ≡ pos 0
    none z = omega (arith, ints)

    ok : (s t : ℤ) → pos 0 ≤ℤ norm s t
    ok s t = omega (arith, ints, square_not_negative s, square_not_negative t)
stays_off a b w u v k iu iv (pos zero) (pos (suc n)) ha hb = weighted_off a b w (0 + suc n) _ _ k (omega arith) (two a b u v 0 (suc n) iu iv)
stays_off a b w u v k iu iv (pos (suc m)) (pos n) ha hb = weighted_off a b w (suc m + n) _ _ k (omega arith) (two a b u v (suc m) n iu iv)
stays_off a b w u v k iu iv (negsuc m) c ha hb = absurd (omega (arith, ints))
stays_off a b w u v k iu iv (pos zero) (negsuc n) ha hb = absurd (omega (arith, ints))
stays_off a b w u v k iu iv (pos (suc m)) (negsuc n) ha hb = absurd (omega (arith, ints))

-- where the lists are apart, the root of the least clearance of two differences is the gap
pub gap_apart : (a b : List Pt) (n w : ℕ) → (Meets0 (differences a b) → ⊥) → IsLeastClearance (differences a b) n → IsRootFloor n w → IsGreatest (KeepsApart a b) w
gap_apart a b n w never s r = record {
  holds = keeps_apart a b w never (λ u v i j. off_down u v n (w * w) (s.all u v i j) r.low);
  greatest = λ q k. let (u, v, i, j, clearance) = s.one in root_order n w q (clearance.greatest (q * q) (stays_off a b q u v k i j)) r.high;
}

-- where they meet, it is 0
pub gap_meets : (a b : List Pt) → Meets0 (differences a b) → IsGreatest (KeepsApart a b) 0
gap_meets a b z = record {
  holds = λ p q hp hq ip iq. omega arith;
  greatest = λ w k. small w z.n z.some (weighted_off a b w z.n (pos 0) (pos 0) k z.some z.mix);
}
  where
    small : (w n : ℕ) → 0 < n → (pos (w * w) *ℤ (pos n *ℤ pos n)) ≤ℤ norm (pos 0) (pos 0) → w ≤ 0
    small zero n h k = omega arith
    small (suc w) zero h k = absurd (omega arith)
    small (suc w) (suc n) h k = absurd (omega (arith, ints, k))
