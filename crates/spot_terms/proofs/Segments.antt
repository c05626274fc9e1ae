-- A point with points of the hull above and below it, at its own x, is in the hull; and points above and below segments.
use Rattle.std.proofs.Common.{◌≡◌, ℕ, zero, suc, ◌+◌, ◌*◌, ◌<◌, arith, refl, sym, ap, ◌∙◌, subst, List, [], ◌∷◌}
use Rattle.std.proofs.lemmas.Int.{ints, by_lt_z}
use Rattle.spot_terms.specs.Lists.{Includes}
use lib.IntN.{ℤ, pos, ◌+ℤ◌, ◌-ℤ◌, ◌*ℤ◌}
use lib.Signed.{◌≤ℤ◌, ◌<ℤ◌}
use Rattle.spot_terms.specs.declared.plain.Pt.{Pt}
use Rattle.spot_terms.specs.Hull.{InHull}
use Rattle.spot_terms.proofs.Ring.{ring, var, ◌⊕◌, ◌⊖◌, ◌⊗◌}
use Rattle.spot_terms.proofs.Mixes.{Mix, mix_add, mix_scale, mix_to, mix_included, not_below_part}
use Rattle.spot_terms.proofs.Hulls.{mix_hull}
use Rattle.spot_terms.proofs.Orders.{at_most_trans, product_not_negative, sum_not_negative, natural_of, equal_between, at_most_of_difference, difference_not_negative}

-- some weighted points of vs, of sum above 0, at the x of q, and at least as high
pub record Above (vs : List Pt) (q : Pt) : Type 0 where
  pub w : ℕ
  pub y : ℤ
  pub some : 0 < w
  pub mix : Mix vs w (pos w *ℤ q.x) y
  pub high : (pos w *ℤ q.y) ≤ℤ y

pub record Below (vs : List Pt) (q : Pt) : Type 0 where
  pub w : ℕ
  pub y : ℤ
  pub some : 0 < w
  pub mix : Mix vs w (pos w *ℤ q.x) y
  pub low : y ≤ℤ (pos w *ℤ q.y)

-- z is a natural number above w
gap_of : (z w : ℤ) → w ≤ℤ z → (n : ℕ) × (z -ℤ w ≡ pos n)
gap_of z w h = natural_of (z -ℤ w) (omega (arith, ints))

mean_x : (s t a b x : ℤ) → (s *ℤ (a *ℤ x)) +ℤ (t *ℤ (b *ℤ x)) ≡ ((s *ℤ a) +ℤ (t *ℤ b)) *ℤ x
mean_x s t a b x =
    ring (s ∷ t ∷ a ∷ b ∷ x ∷ [])
    ((var 0 ⊗ (var 2 ⊗ var 4)) ⊕ (var 1 ⊗ (var 3 ⊗ var 4)))
    (((var 0 ⊗ var 2) ⊕ (var 1 ⊗ var 3)) ⊗ var 4) refl

mean_y : (a b y h l : ℤ) → (((b *ℤ y) -ℤ l) *ℤ h) +ℤ ((h -ℤ (a *ℤ y)) *ℤ l) ≡ ((((b *ℤ y) -ℤ l) *ℤ a) +ℤ ((h -ℤ (a *ℤ y)) *ℤ b)) *ℤ y
mean_y a b y h l =
    ring (a ∷ b ∷ y ∷ h ∷ l ∷ [])
    ((((var 1 ⊗ var 2) ⊖ var 4) ⊗ var 3) ⊕ ((var 3 ⊖ (var 0 ⊗ var 2)) ⊗ var 4))
    (((((var 1 ⊗ var 2) ⊖ var 4) ⊗ var 0) ⊕ ((var 3 ⊖ (var 0 ⊗ var 2)) ⊗ var 1)) ⊗ var 2) refl

pub above_times : (s a t b : ℕ) → 0 < a → 0 < b → 0 < s + t → 0 < s * a + t * b
above_times zero a zero b h k g = absurd (omega arith)
above_times zero (suc a) (suc t) (suc b) h k g = omega arith
above_times (suc s) (suc a) t b h k g = omega arith
above_times zero zero (suc t) b h k g = absurd (omega arith)
above_times zero (suc a) (suc t) zero h k g = absurd (omega arith)
above_times (suc s) zero t b h k g = absurd (omega arith)

-- the weights s and t of the sum_not_negative
mixed : (vs : List Pt) (q : Pt) (u : Above vs q) (l : Below vs q) (s t : ℕ) → (pos l.w *ℤ q.y) -ℤ l.y ≡ pos s → u.y -ℤ (pos u.w *ℤ q.y) ≡ pos t → 0 < s + t → InHull vs q
mixed vs q u l s t hs ht some =
    mix_hull vs q (s * u.w + t * l.w) (above_times s u.w t l.w u.some l.some some)
    (mix_to vs _ _ _ _ _ _ refl
    (mean_x (pos s) (pos t) (pos u.w) (pos l.w) q.x)
    (ap (λ z. (z *ℤ u.y) +ℤ (pos t *ℤ l.y)) (sym hs) ∙ ap (λ z. (((pos l.w *ℤ q.y) -ℤ l.y) *ℤ u.y) +ℤ (z *ℤ l.y)) (sym ht)
    ∙ mean_y (pos u.w) (pos l.w) q.y u.y l.y
    ∙ ap (λ z. ((z *ℤ pos u.w) +ℤ ((u.y -ℤ (pos u.w *ℤ q.y)) *ℤ pos l.w)) *ℤ q.y) hs
    ∙ ap (λ z. ((pos s *ℤ pos u.w) +ℤ (z *ℤ pos l.w)) *ℤ q.y) ht)
    (mix_add vs _ _ _ _ _ _ (mix_scale vs s u.w _ _ u.mix) (mix_scale vs t l.w _ _ l.mix)))

pub between_in_hull : (vs : List Pt) (q : Pt) → Above vs q → Below vs q → InHull vs q
between_in_hull vs q u l =
    let S = gap_of (pos l.w *ℤ q.y) l.y l.low in
    let T = gap_of u.y (pos u.w *ℤ q.y) u.high in
    pick S.0 T.0 S.1 T.1
  where
    level : (z w : ℤ) (t : ℕ) → t ≡ 0 → z -ℤ w ≡ pos t → z ≡ w
    level z w t e h = omega (arith, ints)

    pick : (s t : ℕ) → (pos l.w *ℤ q.y) -ℤ l.y ≡ pos s → u.y -ℤ (pos u.w *ℤ q.y) ≡ pos t → InHull vs q
    pick zero zero hs ht = mix_hull vs q u.w u.some (mix_to vs _ _ _ _ _ _ refl refl (level u.y (pos u.w *ℤ q.y) 0 refl ht) u.mix)
    pick (suc s) t hs ht = mixed vs q u l (suc s) t hs ht (omega arith)
    pick zero (suc t) hs ht = mixed vs q u l 0 (suc t) hs ht (omega arith)

three : (z w u : ℤ) → pos 0 ≤ℤ z → pos 0 ≤ℤ w → pos 0 ≤ℤ u → pos 0 ≤ℤ ((z +ℤ w) +ℤ u)
three z w u h k g = omega (arith, ints)

drawn : (b : ℕ) (y z : ℤ) → (pos b *ℤ y) ≤ℤ (pos b *ℤ z) → pos 0 ≤ℤ (pos b *ℤ (z -ℤ y))
drawn b y z h =
    let e : pos b *ℤ (z -ℤ y) ≡ (pos b *ℤ z) -ℤ (pos b *ℤ y) = ring (pos b ∷ y ∷ z ∷ []) (var 0 ⊗ (var 2 ⊖ var 1)) ((var 0 ⊗ var 2) ⊖ (var 0 ⊗ var 1)) refl in
    rw e (difference_not_negative (pos b *ℤ y) (pos b *ℤ z) h)

mean_of : (a x b : ℤ) → ((b -ℤ x) *ℤ a) +ℤ ((x -ℤ a) *ℤ b) ≡ ((b -ℤ x) +ℤ (x -ℤ a)) *ℤ x
mean_of a x b = ring (a ∷ x ∷ b ∷ []) (((var 2 ⊖ var 1) ⊗ var 0) ⊕ ((var 1 ⊖ var 0) ⊗ var 2)) (((var 2 ⊖ var 1) ⊕ (var 1 ⊖ var 0)) ⊗ var 1) refl

pub sum_of : (s t : ℕ) → pos (s * 1 + t * 1) ≡ pos s +ℤ pos t
sum_of s t = omega (arith, ints)

mean_above : (s t : ℕ) (a x b : ℤ) → b -ℤ x ≡ pos s → x -ℤ a ≡ pos t → (pos s *ℤ a) +ℤ (pos t *ℤ b) ≡ pos (s * 1 + t * 1) *ℤ x
mean_above s t a x b hs ht =
    ap (λ z. (z *ℤ a) +ℤ (pos t *ℤ b)) (sym hs) ∙ ap (λ z. ((b -ℤ x) *ℤ a) +ℤ (z *ℤ b)) (sym ht) ∙ mean_of a x b
    ∙ ap (λ z. (z +ℤ (x -ℤ a)) *ℤ x) hs ∙ ap (λ z. (pos s +ℤ z) *ℤ x) ht ∙ ap (λ z. z *ℤ x) (sym (sum_of s t))

ends_above : (s t : ℕ) (xa ya x y xb yb : ℤ) → xb -ℤ x ≡ pos s → x -ℤ xa ≡ pos t → pos 0 ≤ℤ ((((xb -ℤ x) *ℤ ya) +ℤ ((x -ℤ xa) *ℤ yb)) -ℤ (((xb -ℤ x) +ℤ (x -ℤ xa)) *ℤ y)) → (pos (s * 1 + t * 1) *ℤ y) ≤ℤ ((pos s *ℤ ya) +ℤ (pos t *ℤ yb))
ends_above s t xa ya x y xb yb hs ht h =
    let g : pos 0 ≤ℤ (((pos s *ℤ ya) +ℤ (pos t *ℤ yb)) -ℤ ((pos s +ℤ pos t) *ℤ y)) =
    subst (λ z. pos 0 ≤ℤ (((pos s *ℤ ya) +ℤ (z *ℤ yb)) -ℤ ((pos s +ℤ z) *ℤ y))) ht (subst (λ z. pos 0 ≤ℤ (((z *ℤ ya) +ℤ ((x -ℤ xa) *ℤ yb)) -ℤ ((z +ℤ (x -ℤ xa)) *ℤ y))) hs h) in
    rw (sum_of s t) (at_most_of_difference _ _ g)

ends_below : (s t : ℕ) (xa ya x y xb yb : ℤ) → xb -ℤ x ≡ pos s → x -ℤ xa ≡ pos t → pos 0 ≤ℤ ((((xb -ℤ x) +ℤ (x -ℤ xa)) *ℤ y) -ℤ (((xb -ℤ x) *ℤ ya) +ℤ ((x -ℤ xa) *ℤ yb))) → ((pos s *ℤ ya) +ℤ (pos t *ℤ yb)) ≤ℤ (pos (s * 1 + t * 1) *ℤ y)
ends_below s t xa ya x y xb yb hs ht h =
    let g : pos 0 ≤ℤ (((pos s +ℤ pos t) *ℤ y) -ℤ ((pos s *ℤ ya) +ℤ (pos t *ℤ yb))) =
    subst (λ z. pos 0 ≤ℤ (((pos s +ℤ z) *ℤ y) -ℤ ((pos s *ℤ ya) +ℤ (z *ℤ yb)))) ht (subst (λ z. pos 0 ≤ℤ (((z +ℤ (x -ℤ xa)) *ℤ y) -ℤ ((z *ℤ ya) +ℤ ((x -ℤ xa) *ℤ yb)))) hs h) in
    rw (sum_of s t) (at_most_of_difference _ _ g)

line_above : (b xa ya x y xb yb m f : ℤ) → b *ℤ ((((xb -ℤ x) *ℤ ya) +ℤ ((x -ℤ xa) *ℤ yb)) -ℤ (((xb -ℤ x) +ℤ (x -ℤ xa)) *ℤ y)) ≡ (((xb -ℤ x) *ℤ ((b *ℤ ya) -ℤ ((m *ℤ xa) +ℤ f))) +ℤ ((x -ℤ xa) *ℤ ((b *ℤ yb) -ℤ ((m *ℤ xb) +ℤ f)))) +ℤ (((xb -ℤ x) +ℤ (x -ℤ xa)) *ℤ (((m *ℤ x) +ℤ f) -ℤ (b *ℤ y)))
line_above b xa ya x y xb yb m f =
    ring (b ∷ xa ∷ ya ∷ x ∷ y ∷ xb ∷ yb ∷ m ∷ f ∷ [])
    (var 0 ⊗ ((((var 5 ⊖ var 3) ⊗ var 2) ⊕ ((var 3 ⊖ var 1) ⊗ var 6)) ⊖ (((var 5 ⊖ var 3) ⊕ (var 3 ⊖ var 1)) ⊗ var 4)))
    ((((var 5 ⊖ var 3) ⊗ ((var 0 ⊗ var 2) ⊖ ((var 7 ⊗ var 1) ⊕ var 8))) ⊕ ((var 3 ⊖ var 1) ⊗ ((var 0 ⊗ var 6) ⊖ ((var 7 ⊗ var 5) ⊕ var 8)))) ⊕ (((var 5 ⊖ var 3) ⊕ (var 3 ⊖ var 1)) ⊗ (((var 7 ⊗ var 3) ⊕ var 8) ⊖ (var 0 ⊗ var 4)))) refl

-- a point of the segment is at least as high as q
chord_above : (b : ℕ) (xa ya x y xb yb m f : ℤ) → 0 < b → pos 0 ≤ℤ (xb -ℤ x) → pos 0 ≤ℤ (x -ℤ xa) → pos 0 ≤ℤ ((pos b *ℤ ya) -ℤ ((m *ℤ xa) +ℤ f)) → pos 0 ≤ℤ ((pos b *ℤ yb) -ℤ ((m *ℤ xb) +ℤ f)) → pos 0 ≤ℤ (((m *ℤ x) +ℤ f) -ℤ (pos b *ℤ y)) → pos 0 ≤ℤ ((((xb -ℤ x) *ℤ ya) +ℤ ((x -ℤ xa) *ℤ yb)) -ℤ (((xb -ℤ x) +ℤ (x -ℤ xa)) *ℤ y))
chord_above b xa ya x y xb yb m f some s t ha hb hq =
    not_below_part b _ some
    (subst (λ z. pos 0 ≤ℤ z) (sym (line_above (pos b) xa ya x y xb yb m f))
    (three _ _ _
    (product_not_negative (xb -ℤ x) _ s ha)
    (product_not_negative (x -ℤ xa) _ t hb)
    (product_not_negative ((xb -ℤ x) +ℤ (x -ℤ xa)) _ (sum_not_negative _ _ s t) hq)))

pub segment_above : (vs : List Pt) (A B q : Pt) (b : ℕ) (m f : ℤ) → Includes vs A → Includes vs B → A.x ≤ℤ q.x → q.x ≤ℤ B.x → 0 < b → (pos b *ℤ q.y) ≤ℤ ((m *ℤ q.x) +ℤ f) → ((m *ℤ A.x) +ℤ f) ≤ℤ (pos b *ℤ A.y) → ((m *ℤ B.x) +ℤ f) ≤ℤ (pos b *ℤ B.y) → Above vs q
segment_above vs A B q b m f hasA hasB left right some hq ha hb =
    by_lt_z A.x B.x
    (λ wide.
    let S = gap_of B.x q.x right in
    let T = gap_of q.x A.x left in
    at S.0 T.0 S.1 T.1 (wide_sum S.0 T.0 A.x B.x q.x wide S.1 T.1))
    (λ narrow. record {
      w = 1;
      y = A.y;
      some = omega arith;
      mix = mix_to vs _ _ _ _ _ _ refl (same_x A.x q.x B.x left right narrow) refl (mix_included vs A hasA);
      high = alone b A.x A.y q.x q.y m f some (equal_between A.x q.x B.x left right narrow) hq ha;
    })
  where
    same_x : (a x b : ℤ) → a ≤ℤ x → x ≤ℤ b → b ≤ℤ a → a ≡ pos 1 *ℤ x
    same_x a x b h k g = omega (arith, ints)

    wide_sum : (s t : ℕ) (a b x : ℤ) → a <ℤ b → b -ℤ x ≡ pos s → x -ℤ a ≡ pos t → 0 < s + t
    wide_sum s t a b x h k g = omega (arith, ints)

    alone : (b : ℕ) (xa ya x y m f : ℤ) → 0 < b → xa ≡ x → (pos b *ℤ y) ≤ℤ ((m *ℤ x) +ℤ f) → ((m *ℤ xa) +ℤ f) ≤ℤ (pos b *ℤ ya) → (pos 1 *ℤ y) ≤ℤ ya
    alone b xa ya x y m f some e h k =
        let g : (pos b *ℤ y) ≤ℤ (pos b *ℤ ya) = at_most_trans _ _ _ h (subst (λ z. ((m *ℤ z) +ℤ f) ≤ℤ (pos b *ℤ ya)) e k) in
        let d : pos 0 ≤ℤ (ya -ℤ y) = not_below_part b (ya -ℤ y) some (drawn b y ya g) in
        omega (arith, ints, d)

    at : (s t : ℕ) → B.x -ℤ q.x ≡ pos s → q.x -ℤ A.x ≡ pos t → 0 < s + t → Above vs q
    at s t hs ht far = record {
      w = s * 1 + t * 1;
      y = (pos s *ℤ A.y) +ℤ (pos t *ℤ B.y);
      some = omega arith;
      mix = mix_to vs _ _ _ _ _ _ refl (mean_above s t A.x q.x B.x hs ht) refl
          (mix_add vs _ _ _ _ _ _ (mix_scale vs s 1 _ _ (mix_included vs A hasA)) (mix_scale vs t 1 _ _ (mix_included vs B hasB)));
      high = ends_above s t A.x A.y q.x q.y B.x B.y hs ht
          (chord_above b A.x A.y q.x q.y B.x B.y m f some (difference_not_negative q.x B.x right) (difference_not_negative A.x q.x left) (difference_not_negative _ _ ha) (difference_not_negative _ _ hb) (difference_not_negative _ _ hq));
    }

line_below : (b xa ya x y xb yb m f : ℤ) → b *ℤ ((((xb -ℤ x) +ℤ (x -ℤ xa)) *ℤ y) -ℤ (((xb -ℤ x) *ℤ ya) +ℤ ((x -ℤ xa) *ℤ yb))) ≡ (((xb -ℤ x) *ℤ (((m *ℤ xa) +ℤ f) -ℤ (b *ℤ ya))) +ℤ ((x -ℤ xa) *ℤ (((m *ℤ xb) +ℤ f) -ℤ (b *ℤ yb)))) +ℤ (((xb -ℤ x) +ℤ (x -ℤ xa)) *ℤ ((b *ℤ y) -ℤ ((m *ℤ x) +ℤ f)))
line_below b xa ya x y xb yb m f =
    ring (b ∷ xa ∷ ya ∷ x ∷ y ∷ xb ∷ yb ∷ m ∷ f ∷ [])
    (var 0 ⊗ ((((var 5 ⊖ var 3) ⊕ (var 3 ⊖ var 1)) ⊗ var 4) ⊖ (((var 5 ⊖ var 3) ⊗ var 2) ⊕ ((var 3 ⊖ var 1) ⊗ var 6))))
    ((((var 5 ⊖ var 3) ⊗ (((var 7 ⊗ var 1) ⊕ var 8) ⊖ (var 0 ⊗ var 2))) ⊕ ((var 3 ⊖ var 1) ⊗ (((var 7 ⊗ var 5) ⊕ var 8) ⊖ (var 0 ⊗ var 6)))) ⊕ (((var 5 ⊖ var 3) ⊕ (var 3 ⊖ var 1)) ⊗ ((var 0 ⊗ var 4) ⊖ ((var 7 ⊗ var 3) ⊕ var 8)))) refl

-- a point of the segment is at least as low as q
chord_below : (b : ℕ) (xa ya x y xb yb m f : ℤ) → 0 < b → pos 0 ≤ℤ (xb -ℤ x) → pos 0 ≤ℤ (x -ℤ xa) → pos 0 ≤ℤ (((m *ℤ xa) +ℤ f) -ℤ (pos b *ℤ ya)) → pos 0 ≤ℤ (((m *ℤ xb) +ℤ f) -ℤ (pos b *ℤ yb)) → pos 0 ≤ℤ ((pos b *ℤ y) -ℤ ((m *ℤ x) +ℤ f)) → pos 0 ≤ℤ ((((xb -ℤ x) +ℤ (x -ℤ xa)) *ℤ y) -ℤ (((xb -ℤ x) *ℤ ya) +ℤ ((x -ℤ xa) *ℤ yb)))
chord_below b xa ya x y xb yb m f some s t ha hb hq =
    not_below_part b _ some
    (subst (λ z. pos 0 ≤ℤ z) (sym (line_below (pos b) xa ya x y xb yb m f))
    (three _ _ _
    (product_not_negative (xb -ℤ x) _ s ha)
    (product_not_negative (x -ℤ xa) _ t hb)
    (product_not_negative ((xb -ℤ x) +ℤ (x -ℤ xa)) _ (sum_not_negative _ _ s t) hq)))

pub segment_below : (vs : List Pt) (A B q : Pt) (b : ℕ) (m f : ℤ) → Includes vs A → Includes vs B → A.x ≤ℤ q.x → q.x ≤ℤ B.x → 0 < b → ((m *ℤ q.x) +ℤ f) ≤ℤ (pos b *ℤ q.y) → (pos b *ℤ A.y) ≤ℤ ((m *ℤ A.x) +ℤ f) → (pos b *ℤ B.y) ≤ℤ ((m *ℤ B.x) +ℤ f) → Below vs q
segment_below vs A B q b m f hasA hasB left right some hq ha hb =
    by_lt_z A.x B.x
    (λ wide.
    let S = gap_of B.x q.x right in
    let T = gap_of q.x A.x left in
    at S.0 T.0 S.1 T.1 (wide_sum S.0 T.0 A.x B.x q.x wide S.1 T.1))
    (λ narrow. record {
      w = 1;
      y = A.y;
      some = omega arith;
      mix = mix_to vs _ _ _ _ _ _ refl (same_x A.x q.x B.x left right narrow) refl (mix_included vs A hasA);
      low = alone b A.x A.y q.x q.y m f some (equal_between A.x q.x B.x left right narrow) hq ha;
    })
  where
    same_x : (a x b : ℤ) → a ≤ℤ x → x ≤ℤ b → b ≤ℤ a → a ≡ pos 1 *ℤ x
    same_x a x b h k g = omega (arith, ints)

    wide_sum : (s t : ℕ) (a b x : ℤ) → a <ℤ b → b -ℤ x ≡ pos s → x -ℤ a ≡ pos t → 0 < s + t
    wide_sum s t a b x h k g = omega (arith, ints)

    alone : (b : ℕ) (xa ya x y m f : ℤ) → 0 < b → xa ≡ x → ((m *ℤ x) +ℤ f) ≤ℤ (pos b *ℤ y) → (pos b *ℤ ya) ≤ℤ ((m *ℤ xa) +ℤ f) → ya ≤ℤ (pos 1 *ℤ y)
    alone b xa ya x y m f some e h k =
        let g : (pos b *ℤ ya) ≤ℤ (pos b *ℤ y) = at_most_trans _ _ _ (subst (λ z. (pos b *ℤ ya) ≤ℤ ((m *ℤ z) +ℤ f)) e k) h in
        let d : pos 0 ≤ℤ (y -ℤ ya) = not_below_part b (y -ℤ ya) some (drawn b ya y g) in
        omega (arith, ints, d)

    at : (s t : ℕ) → B.x -ℤ q.x ≡ pos s → q.x -ℤ A.x ≡ pos t → 0 < s + t → Below vs q
    at s t hs ht far = record {
      w = s * 1 + t * 1;
      y = (pos s *ℤ A.y) +ℤ (pos t *ℤ B.y);
      some = omega arith;
      mix = mix_to vs _ _ _ _ _ _ refl (mean_above s t A.x q.x B.x hs ht) refl
          (mix_add vs _ _ _ _ _ _ (mix_scale vs s 1 _ _ (mix_included vs A hasA)) (mix_scale vs t 1 _ _ (mix_included vs B hasB)));
      low = ends_below s t A.x A.y q.x q.y B.x B.y hs ht
          (chord_below b A.x A.y q.x q.y B.x B.y m f some (difference_not_negative q.x B.x right) (difference_not_negative A.x q.x left) (difference_not_negative _ _ ha) (difference_not_negative _ _ hb) (difference_not_negative _ _ hq));
    }
