-- What lies on one side of a hull: the hull, moved along a direction.
use Rattle.std.proofs.Common.{◌≡◌, ℕ, zero, suc, ◌+◌, ◌*◌, ◌<◌, arith, refl, sym, ap, ◌∙◌, List, [], ◌∷◌}
use Rattle.std.proofs.lemmas.Int.{ints}
use Rattle.std.specs.List.{AllByRecursion}
use Rattle.spot_terms.specs.Lists.{Includes}
use lib.IntN.{ℤ, pos, ◌+ℤ◌, ◌-ℤ◌, ◌*ℤ◌}
use lib.Signed.{◌≤ℤ◌, ◌<ℤ◌}
use Rattle.spot_terms.specs.declared.plain.Pt.{Pt}
use Rattle.spot_terms.specs.Hull.{InHull, weighted}
use Rattle.convex_poly.specs.Turns.{cross}
use Rattle.spot_terms.proofs.Ring.{ring, Exp, var, num, ◌⊕◌, ◌⊖◌, ◌⊗◌}
use Rattle.spot_terms.proofs.Mixes.{Mix}
use Rattle.spot_terms.proofs.Mixes.{total, mix_none, mix_add, mix_scale, mix_to, mix_included, positive_times}
use Rattle.spot_terms.proofs.Hulls.{mix_hull, hull_mix_at, mix_hull_at}
use Rattle.spot_terms.proofs.Orders.{difference_of_below, natural_of, opposite_not_negative, first_alone}
use Rattle.spot_terms.proofs.Places.{all_map}
use Rattle.convex_poly.specs.Chains.{key, Toward}
use Rattle.spot_terms.proofs.Segments.{above_times, sum_of}

-- weighted points of vs that are q, moved t / w along (gx, gy)
record TowardMix (gx gy : ℤ) (vs : List Pt) (q : Pt) : Type 0 where
  w : ℕ
  t : ℕ
  some : 0 < w
  mix : Mix vs w ((pos w *ℤ q.x) +ℤ (pos t *ℤ gx)) ((pos w *ℤ q.y) +ℤ (pos t *ℤ gy))

to_mix : (gx gy : ℤ) (vs : List Pt) (q : Pt) → Toward gx gy vs q → TowardMix gx gy vs q
to_mix gx gy vs q h =
    let m = hull_mix_at vs (record { x = pos h.w *ℤ q.x +ℤ pos h.t *ℤ gx; y = pos h.w *ℤ q.y +ℤ pos h.t *ℤ gy; d = h.w }) h.inside in
    record {
      w = h.w * m.n;
      t = m.n * h.t;
      some = positive_times h.w m.n h.some m.some;
      mix = mix_to vs (h.w * m.n) (h.w * m.n) _ _ _ _ refl (sym m.x ∙ parted (pos m.n) (pos h.w) q.x (pos h.t) gx) (sym m.y ∙ parted (pos m.n) (pos h.w) q.y (pos h.t) gy) (mix_scale vs h.w m.n m.X m.Y m.mix);
    }
  where
    parted : (n w x t g : ℤ) → n *ℤ ((w *ℤ x) +ℤ (t *ℤ g)) ≡ ((w *ℤ n) *ℤ x) +ℤ ((n *ℤ t) *ℤ g)
    parted n w x t g = ring (n ∷ w ∷ x ∷ t ∷ g ∷ []) (var 0 ⊗ ((var 1 ⊗ var 2) ⊕ (var 3 ⊗ var 4))) (((var 1 ⊗ var 0) ⊗ var 2) ⊕ ((var 0 ⊗ var 3) ⊗ var 4)) refl

from_mix : (gx gy : ℤ) (vs : List Pt) (q : Pt) → TowardMix gx gy vs q → Toward gx gy vs q
from_mix gx gy vs q h = record {
  w = h.w;
  t = h.t;
  some = h.some;
  inside = mix_hull_at vs (record { x = pos h.w *ℤ q.x +ℤ pos h.t *ℤ gx; y = pos h.w *ℤ q.y +ℤ pos h.t *ℤ gy; d = h.w })
      (record { n = h.w; X = pos h.w *ℤ q.x +ℤ pos h.t *ℤ gx; Y = pos h.w *ℤ q.y +ℤ pos h.t *ℤ gy; some = h.some; mix = h.mix; x = refl; y = refl });
}

-- a multiple of (W, X, Y), moved along (gx, gy)
record MultipleToward (gx gy : ℤ) (vs : List Pt) (W : ℕ) (X Y : ℤ) : Type 0 where
  times : ℕ
  t : ℕ
  some : 0 < times
  mix : Mix vs (times * W) ((pos times *ℤ X) +ℤ (pos t *ℤ gx)) ((pos times *ℤ Y) +ℤ (pos t *ℤ gy))

none_z : (g : ℤ) → pos 0 ≡ (pos 1 *ℤ pos 0) +ℤ (pos 0 *ℤ g)
none_z g = omega (arith, ints)

step_z : (n c w x s t r g : ℤ) → ((n *ℤ w) *ℤ ((c *ℤ x) +ℤ (t *ℤ g))) +ℤ (c *ℤ ((n *ℤ s) +ℤ (r *ℤ g))) ≡ ((n *ℤ c) *ℤ ((w *ℤ x) +ℤ s)) +ℤ ((((n *ℤ w) *ℤ t) +ℤ (c *ℤ r)) *ℤ g)
step_z n c w x s t r g =
    ring (n ∷ c ∷ w ∷ x ∷ s ∷ t ∷ r ∷ g ∷ [])
    (((var 0 ⊗ var 2) ⊗ ((var 1 ⊗ var 3) ⊕ (var 5 ⊗ var 7))) ⊕ (var 1 ⊗ ((var 0 ⊗ var 4) ⊕ (var 6 ⊗ var 7))))
    (((var 0 ⊗ var 1) ⊗ ((var 2 ⊗ var 3) ⊕ var 4)) ⊕ ((((var 0 ⊗ var 2) ⊗ var 5) ⊕ (var 1 ⊗ var 6)) ⊗ var 7)) refl

-- weighted points of us, each on the side of vs, are on the side of vs, up to a multiple
mixes_toward : (gx gy : ℤ) (us vs : List Pt) (ws : List ℕ) → AllByRecursion (TowardMix gx gy vs) us → MultipleToward gx gy vs (total ws us) (weighted (λ v. v.x) ws us) (weighted (λ v. v.y) ws us)
mixes_toward gx gy us vs [] h = record { times = 1; t = 0; some = omega arith; mix = mix_to vs _ _ _ _ _ _ refl (none_z gx) (none_z gy) (mix_none vs) }
mixes_toward gx gy [] vs (w ∷ ws) h = record { times = 1; t = 0; some = omega arith; mix = mix_to vs _ _ _ _ _ _ refl (none_z gx) (none_z gy) (mix_none vs) }
mixes_toward gx gy (u ∷ us) vs (w ∷ ws) h =
    let r = mixes_toward gx gy us vs ws h.1 in
    let c : ℕ = h.0.w in
    record {
      times = r.times * c;
      t = (r.times * w) * h.0.t + c * r.t;
      some = positive_times r.times c r.some h.0.some;
      mix = mix_to vs _ _ _ _ _ _ (omega arith)
          (step_z (pos r.times) (pos c) (pos w) u.x (weighted (λ v. v.x) ws us) (pos h.0.t) (pos r.t) gx)
          (step_z (pos r.times) (pos c) (pos w) u.y (weighted (λ v. v.y) ws us) (pos h.0.t) (pos r.t) gy)
          (mix_add vs _ _ _ _ _ _
          (mix_scale vs (r.times * w) c _ _ h.0.mix)
          (mix_scale vs c (r.times * total ws us) _ _ r.mix));
    }

-- what is on the side of points that are on the side of vs is on the side of vs
mixed_toward_flat : (gx gy : ℤ) (us vs : List Pt) (q : Pt) → AllByRecursion (TowardMix gx gy vs) us → TowardMix gx gy us q → TowardMix gx gy vs q
mixed_toward_flat gx gy us vs q h i =
    let r = mixes_toward gx gy us vs i.mix.weights h in
    record {
      w = r.times * i.w;
      t = r.times * i.t + r.t;
      some = positive_times r.times i.w r.some i.some;
      mix = mix_to vs _ _ _ _ _ _ (ap (λ n. r.times * n) i.mix.at_w)
          (ap (λ z. (pos r.times *ℤ z) +ℤ (pos r.t *ℤ gx)) i.mix.at_x ∙ regroup (pos r.times) (pos i.w) q.x (pos i.t) (pos r.t) gx)
          (ap (λ z. (pos r.times *ℤ z) +ℤ (pos r.t *ℤ gy)) i.mix.at_y ∙ regroup (pos r.times) (pos i.w) q.y (pos i.t) (pos r.t) gy)
          r.mix;
    }
  where
    regroup : (n w x t r g : ℤ) → (n *ℤ ((w *ℤ x) +ℤ (t *ℤ g))) +ℤ (r *ℤ g) ≡ ((n *ℤ w) *ℤ x) +ℤ (((n *ℤ t) +ℤ r) *ℤ g)
    regroup n w x t r g =
        ring (n ∷ w ∷ x ∷ t ∷ r ∷ g ∷ []) ((var 0 ⊗ ((var 1 ⊗ var 2) ⊕ (var 3 ⊗ var 5))) ⊕ (var 4 ⊗ var 5)) (((var 0 ⊗ var 1) ⊗ var 2) ⊕ (((var 0 ⊗ var 3) ⊕ var 4) ⊗ var 5)) refl

mixed_toward_included : (gx gy : ℤ) (vs : List Pt) (u : Pt) → Includes vs u → TowardMix gx gy vs u
mixed_toward_included gx gy vs u c = record {
  w = 1;
  t = 0;
  some = omega arith;
  mix = mix_to vs _ _ _ _ _ _ refl (sym (first_alone u.x gx)) (sym (first_alone u.y gy)) (mix_included vs u c);
}

-- on both sides is in the hull
mixed_both_sides : (gx gy hx hy : ℤ) (vs : List Pt) (q : Pt) → hx ≡ pos 0 -ℤ gx → hy ≡ pos 0 -ℤ gy → TowardMix gx gy vs q → TowardMix hx hy vs q → InHull vs q
mixed_both_sides gx gy hx hy vs q ex ey a b = pick a.t b.t refl refl
  where
    mean : (s t v w x g h : ℤ) → h ≡ pos 0 -ℤ g → (t *ℤ ((v *ℤ x) +ℤ (s *ℤ g))) +ℤ (s *ℤ ((w *ℤ x) +ℤ (t *ℤ h))) ≡ ((t *ℤ v) +ℤ (s *ℤ w)) *ℤ x
    mean s t v w x g h e =
        ap (λ z. (t *ℤ ((v *ℤ x) +ℤ (s *ℤ g))) +ℤ (s *ℤ ((w *ℤ x) +ℤ (t *ℤ z)))) e
        ∙ ring (s ∷ t ∷ v ∷ w ∷ x ∷ g ∷ []) ((var 1 ⊗ ((var 2 ⊗ var 4) ⊕ (var 0 ⊗ var 5))) ⊕ (var 0 ⊗ ((var 3 ⊗ var 4) ⊕ (var 1 ⊗ (num (pos 0) ⊖ var 5))))) (((var 1 ⊗ var 2) ⊕ (var 0 ⊗ var 3)) ⊗ var 4) refl

    at_rest : (w x t g : ℤ) → t ≡ pos 0 → (w *ℤ x) +ℤ (t *ℤ g) ≡ w *ℤ x
    at_rest w x t g e = rw e (omega (arith, ints))

    joined : 0 < b.t + a.t → InHull vs q
    joined some =
        mix_hull vs q (b.t * a.w + a.t * b.w) (above_times b.t a.w a.t b.w a.some b.some some)
        (mix_to vs _ _ _ _ _ _ refl
        (mean (pos a.t) (pos b.t) (pos a.w) (pos b.w) q.x gx hx ex)
        (mean (pos a.t) (pos b.t) (pos a.w) (pos b.w) q.y gy hy ey)
        (mix_add vs _ _ _ _ _ _ (mix_scale vs b.t a.w _ _ a.mix) (mix_scale vs a.t b.w _ _ b.mix)))

    pick : (s t : ℕ) → s ≡ a.t → t ≡ b.t → InHull vs q
    pick zero t e f = mix_hull vs q a.w a.some (mix_to vs _ _ _ _ _ _ refl (at_rest (pos a.w) q.x (pos a.t) gx (ap pos (sym e))) (at_rest (pos a.w) q.y (pos a.t) gy (ap pos (sym e))) a.mix)
    pick (suc s) t e f = joined (omega (arith, e))

-- a corner that does not turn left is on the side of its neighbours
mixed_middle_toward : (kx ky : ℤ) (vs : List Pt) (a b c : Pt) → Includes vs a → Includes vs c → key kx ky a <ℤ key kx ky b → key kx ky b <ℤ key kx ky c → cross a b c ≤ℤ pos 0 → TowardMix ky (pos 0 -ℤ kx) vs b
mixed_middle_toward kx ky vs a b c hasA hasC ab bc turn =
    by_nat (natural_of (key kx ky c -ℤ key kx ky b) (difference_of_below _ _ bc)) (natural_of (key kx ky b -ℤ key kx ky a) (difference_of_below _ _ ab)) (natural_of (pos 0 -ℤ cross a b c) (opposite_not_negative _ turn))
  where
    some_of : (s : ℕ) (r : ℕ) (z w : ℤ) → z <ℤ w → w -ℤ z ≡ pos s → 0 < s * 1 + r * 1
    some_of s r z w h e = omega (arith, ints)

    as_exp : Exp → Exp → Exp → Exp → Exp → Exp → Exp
    as_exp ax ay bx by cx cy = ((bx ⊖ ax) ⊗ (cy ⊖ ay)) ⊖ ((by ⊖ ay) ⊗ (cx ⊖ ax))

    x_id : (kx ky ax ay bx by cx cy : ℤ) → ((((kx *ℤ cx) +ℤ (ky *ℤ cy)) -ℤ ((kx *ℤ bx) +ℤ (ky *ℤ by))) *ℤ ax) +ℤ ((((kx *ℤ bx) +ℤ (ky *ℤ by)) -ℤ ((kx *ℤ ax) +ℤ (ky *ℤ ay))) *ℤ cx) ≡ (((((kx *ℤ cx) +ℤ (ky *ℤ cy)) -ℤ ((kx *ℤ bx) +ℤ (ky *ℤ by))) +ℤ (((kx *ℤ bx) +ℤ (ky *ℤ by)) -ℤ ((kx *ℤ ax) +ℤ (ky *ℤ ay)))) *ℤ bx) +ℤ ((pos 0 -ℤ (((bx -ℤ ax) *ℤ (cy -ℤ ay)) -ℤ ((by -ℤ ay) *ℤ (cx -ℤ ax)))) *ℤ ky)
    x_id kx ky ax ay bx by cx cy =
        let K : Exp → Exp → Exp = λ x y. (var 0 ⊗ x) ⊕ (var 1 ⊗ y) in
        let S : Exp = K (var 6) (var 7) ⊖ K (var 4) (var 5) in
        let R : Exp = K (var 4) (var 5) ⊖ K (var 2) (var 3) in
        ring (kx ∷ ky ∷ ax ∷ ay ∷ bx ∷ by ∷ cx ∷ cy ∷ []) ((S ⊗ var 2) ⊕ (R ⊗ var 6))
        (((S ⊕ R) ⊗ var 4) ⊕ ((num (pos 0) ⊖ (((var 4 ⊖ var 2) ⊗ (var 7 ⊖ var 3)) ⊖ ((var 5 ⊖ var 3) ⊗ (var 6 ⊖ var 2)))) ⊗ var 1)) refl

    y_id : (kx ky ax ay bx by cx cy : ℤ) → ((((kx *ℤ cx) +ℤ (ky *ℤ cy)) -ℤ ((kx *ℤ bx) +ℤ (ky *ℤ by))) *ℤ ay) +ℤ ((((kx *ℤ bx) +ℤ (ky *ℤ by)) -ℤ ((kx *ℤ ax) +ℤ (ky *ℤ ay))) *ℤ cy) ≡ (((((kx *ℤ cx) +ℤ (ky *ℤ cy)) -ℤ ((kx *ℤ bx) +ℤ (ky *ℤ by))) +ℤ (((kx *ℤ bx) +ℤ (ky *ℤ by)) -ℤ ((kx *ℤ ax) +ℤ (ky *ℤ ay)))) *ℤ by) +ℤ ((pos 0 -ℤ (((bx -ℤ ax) *ℤ (cy -ℤ ay)) -ℤ ((by -ℤ ay) *ℤ (cx -ℤ ax)))) *ℤ (pos 0 -ℤ kx))
    y_id kx ky ax ay bx by cx cy =
        let K : Exp → Exp → Exp = λ x y. (var 0 ⊗ x) ⊕ (var 1 ⊗ y) in
        let S : Exp = K (var 6) (var 7) ⊖ K (var 4) (var 5) in
        let R : Exp = K (var 4) (var 5) ⊖ K (var 2) (var 3) in
        ring (kx ∷ ky ∷ ax ∷ ay ∷ bx ∷ by ∷ cx ∷ cy ∷ []) ((S ⊗ var 3) ⊕ (R ⊗ var 7))
        (((S ⊕ R) ⊗ var 5) ⊕ ((num (pos 0) ⊖ (((var 4 ⊖ var 2) ⊗ (var 7 ⊖ var 3)) ⊖ ((var 5 ⊖ var 3) ⊗ (var 6 ⊖ var 2)))) ⊗ (num (pos 0) ⊖ var 0))) refl

    placed : (S R T : ℤ) (s r t : ℕ) (a b c g : ℤ) → S ≡ pos s → R ≡ pos r → T ≡ pos t → (S *ℤ a) +ℤ (R *ℤ c) ≡ ((S +ℤ R) *ℤ b) +ℤ (T *ℤ g) → (pos s *ℤ a) +ℤ (pos r *ℤ c) ≡ (pos (s * 1 + r * 1) *ℤ b) +ℤ (pos t *ℤ g)
    placed S R T s r t a b c g hs hr ht e =
        ap (λ z. (z *ℤ a) +ℤ (pos r *ℤ c)) (sym hs) ∙ ap (λ z. (S *ℤ a) +ℤ (z *ℤ c)) (sym hr) ∙ e
        ∙ ap (λ z. ((z +ℤ R) *ℤ b) +ℤ (T *ℤ g)) hs ∙ ap (λ z. ((pos s +ℤ z) *ℤ b) +ℤ (T *ℤ g)) hr ∙ ap (λ z. ((pos s +ℤ pos r) *ℤ b) +ℤ (z *ℤ g)) ht
        ∙ ap (λ z. (z *ℤ b) +ℤ (pos t *ℤ g)) (sym (sum_of s r))

    by_nat : (s : ℕ) × (key kx ky c -ℤ key kx ky b ≡ pos s) → (r : ℕ) × (key kx ky b -ℤ key kx ky a ≡ pos r) → (t : ℕ) × (pos 0 -ℤ cross a b c ≡ pos t) → TowardMix ky (pos 0 -ℤ kx) vs b
    by_nat S R T = record {
      w = S.0 * 1 + R.0 * 1;
      t = T.0;
      some = some_of S.0 R.0 _ _ bc S.1;
      mix = mix_to vs _ _ _ _ _ _ refl
          (placed _ _ _ S.0 R.0 T.0 a.x b.x c.x ky S.1 R.1 T.1 (x_id kx ky a.x a.y b.x b.y c.x c.y))
          (placed _ _ _ S.0 R.0 T.0 a.y b.y c.y (pos 0 -ℤ kx) S.1 R.1 T.1 (y_id kx ky a.x a.y b.x b.y c.x c.y))
          (mix_add vs _ _ _ _ _ _ (mix_scale vs S.0 1 _ _ (mix_included vs a hasA)) (mix_scale vs R.0 1 _ _ (mix_included vs c hasC)));
    }

-- ---- the same of the sides of hulls

-- what is on the side of points that are on the side of vs is on the side of vs
pub toward_flat : (gx gy : ℤ) (us vs : List Pt) (q : Pt) → AllByRecursion (Toward gx gy vs) us → Toward gx gy us q → Toward gx gy vs q
toward_flat gx gy us vs q h i = from_mix gx gy vs q (mixed_toward_flat gx gy us vs q (all_map (Toward gx gy vs) (TowardMix gx gy vs) (λ u t. to_mix gx gy vs u t) us h) (to_mix gx gy us q i))

pub toward_included : (gx gy : ℤ) (vs : List Pt) (u : Pt) → Includes vs u → Toward gx gy vs u
toward_included gx gy vs u c = from_mix gx gy vs u (mixed_toward_included gx gy vs u c)

-- on both sides is in the hull
pub both_sides : (gx gy hx hy : ℤ) (vs : List Pt) (q : Pt) → hx ≡ pos 0 -ℤ gx → hy ≡ pos 0 -ℤ gy → Toward gx gy vs q → Toward hx hy vs q → InHull vs q
both_sides gx gy hx hy vs q ex ey a b = mixed_both_sides gx gy hx hy vs q ex ey (to_mix gx gy vs q a) (to_mix hx hy vs q b)

-- a corner that does not turn left is on the side of its neighbours
pub middle_toward : (kx ky : ℤ) (vs : List Pt) (a b c : Pt) → Includes vs a → Includes vs c → key kx ky a <ℤ key kx ky b → key kx ky b <ℤ key kx ky c → cross a b c ≤ℤ pos 0 → Toward ky (pos 0 -ℤ kx) vs b
middle_toward kx ky vs a b c has_a has_c ab bc turn = from_mix ky (pos 0 -ℤ kx) vs b (mixed_middle_toward kx ky vs a b c has_a has_c ab bc turn)
