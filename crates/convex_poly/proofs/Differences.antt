-- Weighted differences of two lists are differences of weighted points, and the other way round.
use Rattle.std.proofs.Common.{◌≡◌, ℕ, ◌+◌, ◌*◌, arith, refl, sym, ap, ◌∙◌, List, [], ◌∷◌, ◌++◌}
use Rattle.std.proofs.lemmas.Int.{ints}
use lib.IntN.{ℤ, pos, ◌+ℤ◌, ◌-ℤ◌, ◌*ℤ◌}
use Rattle.spot_terms.specs.declared.plain.Pt.{Pt}
use Rattle.spot_terms.proofs.Mixes.{total, Mix}
use Rattle.spot_terms.specs.Hull.{weighted}
use Rattle.convex_poly.specs.Pivots.{each_minus, differences}
use Rattle.spot_terms.proofs.Ring.{ring, var, ◌⊕◌, ◌⊖◌, ◌⊗◌}
use Rattle.spot_terms.proofs.Mixes.{mix_none, mix_add, mix_scale, mix_more, mix_first, mix_to}
use Rattle.spot_terms.proofs.Orders.{sum_behind}

-- ---- one point against a list

total_minus : (p : Pt) (ws : List ℕ) (qs : List Pt) → total ws (each_minus p qs) ≡ total ws qs
total_minus p [] qs = refl
total_minus p (w ∷ ws) [] = refl
total_minus p (w ∷ ws) (q ∷ qs) = ap (λ n. w + n) (total_minus p ws qs)

minus_step : (w t : ℕ) (p q s : ℤ) → (pos w *ℤ (p -ℤ q)) +ℤ ((pos t *ℤ p) -ℤ s) ≡ (pos (w + t) *ℤ p) -ℤ ((pos w *ℤ q) +ℤ s)
minus_step w t p q s =
    ring (pos w ∷ pos t ∷ p ∷ q ∷ s ∷ []) ((var 0 ⊗ (var 2 ⊖ var 3)) ⊕ ((var 1 ⊗ var 2) ⊖ var 4)) (((var 0 ⊕ var 1) ⊗ var 2) ⊖ ((var 0 ⊗ var 3) ⊕ var 4)) refl

minus_none : (p : ℤ) → pos 0 ≡ (pos 0 *ℤ p) -ℤ pos 0
minus_none p = omega (arith, ints)

weigh_minus_x : (p : Pt) (ws : List ℕ) (qs : List Pt) → weighted (λ v. v.x) ws (each_minus p qs) ≡ (pos (total ws qs) *ℤ p.x) -ℤ weighted (λ v. v.x) ws qs
weigh_minus_x p [] qs = minus_none p.x
weigh_minus_x p (w ∷ ws) [] = minus_none p.x
weigh_minus_x p (w ∷ ws) (q ∷ qs) = ap (λ z. (pos w *ℤ (p.x -ℤ q.x)) +ℤ z) (weigh_minus_x p ws qs) ∙ minus_step w (total ws qs) p.x q.x (weighted (λ v. v.x) ws qs)

weigh_minus_y : (p : Pt) (ws : List ℕ) (qs : List Pt) → weighted (λ v. v.y) ws (each_minus p qs) ≡ (pos (total ws qs) *ℤ p.y) -ℤ weighted (λ v. v.y) ws qs
weigh_minus_y p [] qs = minus_none p.y
weigh_minus_y p (w ∷ ws) [] = minus_none p.y
weigh_minus_y p (w ∷ ws) (q ∷ qs) = ap (λ z. (pos w *ℤ (p.y -ℤ q.y)) +ℤ z) (weigh_minus_y p ws qs) ∙ minus_step w (total ws qs) p.y q.y (weighted (λ v. v.y) ws qs)

minus_mix : (p : Pt) (qs : List Pt) (W : ℕ) (X Y : ℤ) → Mix qs W X Y → Mix (each_minus p qs) W ((pos W *ℤ p.x) -ℤ X) ((pos W *ℤ p.y) -ℤ Y)
minus_mix p qs W X Y m = mix_to (each_minus p qs) _ W _ _ _ _ (total_minus p m.weights qs ∙ m.at_w)
    (weigh_minus_x p m.weights qs ∙ ap (λ (n : ℕ). (pos n *ℤ p.x) -ℤ weighted (λ v. v.x) m.weights qs) m.at_w ∙ ap (λ z. (pos W *ℤ p.x) -ℤ z) m.at_x)
    (weigh_minus_y p m.weights qs ∙ ap (λ (n : ℕ). (pos n *ℤ p.y) -ℤ weighted (λ v. v.y) m.weights qs) m.at_w ∙ ap (λ z. (pos W *ℤ p.y) -ℤ z) m.at_y)
    (record { weights = m.weights; at_w = refl; at_x = refl; at_y = refl })

back_from : (t p s : ℤ) → (t *ℤ p) -ℤ ((t *ℤ p) -ℤ s) ≡ s
back_from t p s = omega (arith, ints)

mix_minus : (p : Pt) (qs : List Pt) (W : ℕ) (X Y : ℤ) → Mix (each_minus p qs) W X Y → Mix qs W ((pos W *ℤ p.x) -ℤ X) ((pos W *ℤ p.y) -ℤ Y)
mix_minus p qs W X Y m = mix_to qs _ W _ _ _ _ (sym (total_minus p m.weights qs) ∙ m.at_w)
    (sym (back_from (pos (total m.weights qs)) p.x (weighted (λ v. v.x) m.weights qs)) ∙ ap (λ z. (pos (total m.weights qs) *ℤ p.x) -ℤ z) (sym (weigh_minus_x p m.weights qs) ∙ m.at_x)
    ∙ ap (λ (n : ℕ). (pos n *ℤ p.x) -ℤ X) (sym (total_minus p m.weights qs) ∙ m.at_w))
    (sym (back_from (pos (total m.weights qs)) p.y (weighted (λ v. v.y) m.weights qs)) ∙ ap (λ z. (pos (total m.weights qs) *ℤ p.y) -ℤ z) (sym (weigh_minus_y p m.weights qs) ∙ m.at_y)
    ∙ ap (λ (n : ℕ). (pos n *ℤ p.y) -ℤ Y) (sym (total_minus p m.weights qs) ∙ m.at_w))
    (record { weights = m.weights; at_w = refl; at_x = refl; at_y = refl })

-- ---- joined lists

mix_before : (ws : List ℕ) (us vs : List Pt) → Mix (us ++ vs) (total ws us) (weighted (λ v. v.x) ws us) (weighted (λ v. v.y) ws us)
mix_before [] us vs = mix_none (us ++ vs)
mix_before (w ∷ ws) [] vs = mix_none vs
mix_before (w ∷ ws) (u ∷ us) vs =
    mix_to (u ∷ (us ++ vs)) (w * 1 + total ws us) (w + total ws us) _ _ _ _ (omega arith) refl refl
    (mix_add (u ∷ (us ++ vs)) (w * 1) (total ws us) (pos w *ℤ u.x) (pos w *ℤ u.y) _ _ (mix_scale (u ∷ (us ++ vs)) w 1 u.x u.y (mix_first u (us ++ vs))) (mix_more u (us ++ vs) _ _ _ (mix_before ws us vs)))

mix_front : (us vs : List Pt) (W : ℕ) (X Y : ℤ) → Mix us W X Y → Mix (us ++ vs) W X Y
mix_front us vs W X Y m = mix_to (us ++ vs) _ _ _ _ _ _ m.at_w m.at_x m.at_y (mix_before m.weights us vs)

mix_after : (us vs : List Pt) (W : ℕ) (X Y : ℤ) → Mix vs W X Y → Mix (us ++ vs) W X Y
mix_after [] vs W X Y m = m
mix_after (u ∷ us) vs W X Y m = mix_more u (us ++ vs) W X Y (mix_after us vs W X Y m)

-- ---- from points to differences

pairs_step : (w V t : ℕ) (p P s : ℤ) → (pos w *ℤ ((pos V *ℤ p) -ℤ P)) +ℤ ((pos V *ℤ s) -ℤ (pos t *ℤ P)) ≡ (pos V *ℤ ((pos w *ℤ p) +ℤ s)) -ℤ (pos (w + t) *ℤ P)
pairs_step w V t p P s =
    ring (pos w ∷ pos V ∷ pos t ∷ p ∷ P ∷ s ∷ []) ((var 0 ⊗ ((var 1 ⊗ var 3) ⊖ var 4)) ⊕ ((var 1 ⊗ var 5) ⊖ (var 2 ⊗ var 4))) ((var 1 ⊗ ((var 0 ⊗ var 3) ⊕ var 5)) ⊖ ((var 0 ⊕ var 2) ⊗ var 4)) refl

pairs_none : (V : ℕ) (P : ℤ) → pos 0 ≡ (pos V *ℤ pos 0) -ℤ (pos 0 *ℤ P)
pairs_none V P = omega (arith, ints)

pairs : (ws : List ℕ) (ps qs : List Pt) (V : ℕ) (P Q : ℤ) → Mix qs V P Q
    → Mix (differences ps qs) (total ws ps * V) ((pos V *ℤ weighted (λ v. v.x) ws ps) -ℤ (pos (total ws ps) *ℤ P)) ((pos V *ℤ weighted (λ v. v.y) ws ps) -ℤ (pos (total ws ps) *ℤ Q))
pairs [] ps qs V P Q m = mix_to (differences ps qs) 0 (0 * V) _ _ _ _ (omega arith) (pairs_none V P) (pairs_none V Q) (mix_none (differences ps qs))
pairs (w ∷ ws) [] qs V P Q m = mix_to [] 0 (0 * V) _ _ _ _ (omega arith) (pairs_none V P) (pairs_none V Q) (mix_none [])
pairs (w ∷ ws) (p ∷ ps) qs V P Q m =
    mix_to (each_minus p qs ++ differences ps qs) (w * V + total ws ps * V) _ _ _ _ _ (omega arith) (pairs_step w V (total ws ps) p.x P (weighted (λ v. v.x) ws ps)) (pairs_step w V (total ws ps) p.y Q (weighted (λ v. v.y) ws ps))
    (mix_add (each_minus p qs ++ differences ps qs) (w * V) (total ws ps * V) _ _ _ _
    (mix_front (each_minus p qs) (differences ps qs) (w * V) _ _ (mix_scale (each_minus p qs) w V _ _ (minus_mix p qs V P Q m)))
    (mix_after (each_minus p qs) (differences ps qs) (total ws ps * V) _ _ (pairs ws ps qs V P Q m)))

pub to_differences : (ps qs : List Pt) (W V : ℕ) (X Y P Q : ℤ) → Mix ps W X Y → Mix qs V P Q → Mix (differences ps qs) (W * V) ((pos V *ℤ X) -ℤ (pos W *ℤ P)) ((pos V *ℤ Y) -ℤ (pos W *ℤ Q))
to_differences ps qs W V X Y P Q m n =
    mix_to (differences ps qs) _ _ _ _ _ _ (ap (λ (k : ℕ). k * V) m.at_w)
    (ap (λ z. (pos V *ℤ z) -ℤ (pos (total m.weights ps) *ℤ P)) m.at_x ∙ ap (λ (k : ℕ). (pos V *ℤ X) -ℤ (pos k *ℤ P)) m.at_w)
    (ap (λ z. (pos V *ℤ z) -ℤ (pos (total m.weights ps) *ℤ Q)) m.at_y ∙ ap (λ (k : ℕ). (pos V *ℤ Y) -ℤ (pos k *ℤ Q)) m.at_w)
    (pairs m.weights ps qs V P Q n)

-- ---- from differences to points

-- weights of the same sum on both lists, whose points differ by (X, Y)
pub record Apart (ps qs : List Pt) (W : ℕ) (X Y : ℤ) : Type 0 where
  pub px : ℤ
  pub py : ℤ
  pub qx : ℤ
  pub qy : ℤ
  pub in_p : Mix ps W px py
  pub in_q : Mix qs W qx qy
  pub x : X ≡ px -ℤ qx
  pub y : Y ≡ py -ℤ qy

record Parts (us vs : List Pt) (W : ℕ) (X Y : ℤ) : Type 0 where
  w1 : ℕ
  x1 : ℤ
  y1 : ℤ
  w2 : ℕ
  x2 : ℤ
  y2 : ℤ
  front : Mix us w1 x1 y1
  rest : Mix vs w2 x2 y2
  w : W ≡ w1 + w2
  x : X ≡ x1 +ℤ x2
  y : Y ≡ y1 +ℤ y2

parts : (ws : List ℕ) (us vs : List Pt) → Parts us vs (total ws (us ++ vs)) (weighted (λ v. v.x) ws (us ++ vs)) (weighted (λ v. v.y) ws (us ++ vs))
parts ws [] vs = record {
  w1 = 0;
  x1 = pos 0;
  y1 = pos 0;
  w2 = total ws vs;
  x2 = weighted (λ v. v.x) ws vs;
  y2 = weighted (λ v. v.y) ws vs;
  front = mix_none [];
  rest = record { weights = ws; at_w = refl; at_x = refl; at_y = refl };
  w = omega arith;
  x = omega (arith, ints);
  y = omega (arith, ints);
}
parts [] (u ∷ us) vs = record {
  w1 = 0;
  x1 = pos 0;
  y1 = pos 0;
  w2 = 0;
  x2 = pos 0;
  y2 = pos 0;
  front = mix_none (u ∷ us);
  rest = mix_none vs;
  w = refl;
  x = refl;
  y = refl;
}
parts (w ∷ ws) (u ∷ us) vs = let k = parts ws us vs in record {
  w1 = w * 1 + k.w1;
  x1 = (pos w *ℤ u.x) +ℤ k.x1;
  y1 = (pos w *ℤ u.y) +ℤ k.y1;
  w2 = k.w2;
  x2 = k.x2;
  y2 = k.y2;
  front = mix_add (u ∷ us) (w * 1) k.w1 (pos w *ℤ u.x) (pos w *ℤ u.y) k.x1 k.y1 (mix_scale (u ∷ us) w 1 u.x u.y (mix_first u us)) (mix_more u us k.w1 k.x1 k.y1 k.front);
  rest = k.rest;
  w = omega (arith, k.w);
  x = sym (sum_behind _ _ _ _ (sym k.x));
  y = sym (sum_behind _ _ _ _ (sym k.y));
}

no_points : (ws : List ℕ) → total ws [] ≡ 0
no_points [] = refl
no_points (w ∷ ws) = refl

no_weight : (f : Pt → ℤ) (ws : List ℕ) → weighted f ws [] ≡ pos 0
no_weight f [] = refl
no_weight f (w ∷ ws) = refl

pub from_differences : (ps qs : List Pt) (W : ℕ) (X Y : ℤ) → Mix (differences ps qs) W X Y → Apart ps qs W X Y
from_differences [] qs W X Y m =
    let e : W ≡ 0 = sym m.at_w ∙ no_points m.weights in
    let f : X ≡ pos 0 = sym m.at_x ∙ no_weight (λ v. v.x) m.weights in
    let g : Y ≡ pos 0 = sym m.at_y ∙ no_weight (λ v. v.y) m.weights in
    record {
      px = pos 0;
      py = pos 0;
      qx = pos 0;
      qy = pos 0;
      in_p = mix_to [] 0 W _ _ _ _ (sym e) refl refl (mix_none []);
      in_q = mix_to qs 0 W _ _ _ _ (sym e) refl refl (mix_none qs);
      x = f;
      y = g;
    }
from_differences (p ∷ ps) qs W X Y m =
    let k = parts m.weights (each_minus p qs) (differences ps qs) in
    let r = from_differences ps qs k.w2 k.x2 k.y2 k.rest in
    record {
      px = (pos k.w1 *ℤ p.x) +ℤ r.px;
      py = (pos k.w1 *ℤ p.y) +ℤ r.py;
      qx = ((pos k.w1 *ℤ p.x) -ℤ k.x1) +ℤ r.qx;
      qy = ((pos k.w1 *ℤ p.y) -ℤ k.y1) +ℤ r.qy;
      in_p = mix_to (p ∷ ps) (k.w1 * 1 + k.w2) W _ _ _ _ (omega (arith, k.w, m.at_w)) refl refl
          (mix_add (p ∷ ps) (k.w1 * 1) k.w2 _ _ r.px r.py (mix_scale (p ∷ ps) k.w1 1 p.x p.y (mix_first p ps)) (mix_more p ps k.w2 r.px r.py r.in_p));
      in_q = mix_to qs (k.w1 + k.w2) W _ _ _ _ (sym k.w ∙ m.at_w) refl refl (mix_add qs k.w1 k.w2 _ _ r.qx r.qy (mix_minus p qs k.w1 k.x1 k.y1 k.front) r.in_q);
      x = joined X k.x1 k.x2 (pos k.w1 *ℤ p.x) r.px r.qx (sym m.at_x ∙ k.x) r.x;
      y = joined Y k.y1 k.y2 (pos k.w1 *ℤ p.y) r.py r.qy (sym m.at_y ∙ k.y) r.y;
    }
  where
    joined : (X a b t p q : ℤ) → X ≡ a +ℤ b → b ≡ p -ℤ q → X ≡ (t +ℤ p) -ℤ ((t -ℤ a) +ℤ q)
    joined X a b t p q e f = omega (arith, ints)
