-- Sums of weighted points. A point without a weight counts with the weight 0, and a weight without a point counts nothing,
-- so these sums ask for no lengths.
use Rattle.std.proofs.Common.{◌≡◌, ℕ, zero, suc, ◌+◌, ◌*◌, ◌<◌, arith, refl, sym, ap, ◌∙◌, subst, List, [], ◌∷◌, inl, inr}
use Rattle.std.specs.List.{AllByRecursion}
use Rattle.std.proofs.lemmas.Int.{ints}
use lib.IntN.{ℤ, pos, negsuc, ◌+ℤ◌, ◌*ℤ◌}
use lib.Signed.{◌≤ℤ◌}
use Rattle.spot_terms.specs.declared.plain.Pt.{Pt}
use Rattle.spot_terms.specs.Hull.{weighted}
use Rattle.spot_terms.specs.Lists.{Includes}
use Rattle.spot_terms.proofs.Products.{*ℤ_assoc}
use Rattle.spot_terms.proofs.Ring.{ring, var, ◌⊕◌, ◌⊗◌, spread}
use Rattle.spot_terms.proofs.Orders.{product_not_negative}

-- the sum of the weights of the points
abbrev pub total : List ℕ → List Pt → ℕ
total [] vs = 0
total (w ∷ ws) [] = 0
total (w ∷ ws) (v ∷ vs) = w + total ws vs

-- (X, Y) is a sum of weighted points of vs, and W the sum of the weights
pub record Mix (vs : List Pt) (W : ℕ) (X Y : ℤ) : Type 0 where
  pub weights : List ℕ
  pub at_w : total weights vs ≡ W
  pub at_x : weighted (λ v. v.x) weights vs ≡ X
  pub at_y : weighted (λ v. v.y) weights vs ≡ Y

-- no weight, no sum
pub no_total : (f : Pt → ℤ) (ws : List ℕ) (vs : List Pt) → total ws vs ≡ 0 → weighted f ws vs ≡ pos 0
no_total f [] vs h = refl
no_total f (w ∷ ws) [] h = refl
no_total f (zero ∷ ws) (v ∷ vs) h = let e : weighted f ws vs ≡ pos 0 = no_total f ws vs (omega (arith, h)) in omega (arith, ints, e)
no_total f (suc w ∷ ws) (v ∷ vs) h = absurd (omega (arith, h))

pub mix_none : (vs : List Pt) → Mix vs 0 (pos 0) (pos 0)
mix_none vs = record { weights = []; at_w = refl; at_x = refl; at_y = refl }

-- ---- sums of weights
abbrev plus : List ℕ → List ℕ → List ℕ
plus [] bs = bs
plus (a ∷ ms) [] = a ∷ ms
plus (a ∷ ms) (b ∷ bs) = (a + b) ∷ plus ms bs

total-plus : (ms bs : List ℕ) (vs : List Pt) → total (plus ms bs) vs ≡ total ms vs + total bs vs
total-plus [] bs vs = omega arith
total-plus (a ∷ ms) [] vs = omega arith
total-plus (a ∷ ms) (b ∷ bs) [] = refl
total-plus (a ∷ ms) (b ∷ bs) (v ∷ vs) = omega (arith, total-plus ms bs vs)

weighted-plus : (f : Pt → ℤ) (ms bs : List ℕ) (vs : List Pt) → weighted f (plus ms bs) vs ≡ weighted f ms vs +ℤ weighted f bs vs
weighted-plus f [] bs vs = omega (arith, ints)
weighted-plus f (a ∷ ms) [] vs = omega (arith, ints)
weighted-plus f (a ∷ ms) (b ∷ bs) [] = refl
weighted-plus f (a ∷ ms) (b ∷ bs) (v ∷ vs) = omega (arith, ints, weighted-plus f ms bs vs)

abbrev scaled : ℕ → List ℕ → List ℕ
scaled n [] = []
scaled n (a ∷ ms) = (n * a) ∷ scaled n ms

total-scaled : (n : ℕ) (ms : List ℕ) (vs : List Pt) → total (scaled n ms) vs ≡ n * total ms vs
total-scaled n [] vs = omega arith
total-scaled n (a ∷ ms) [] = omega arith
total-scaled n (a ∷ ms) (v ∷ vs) = omega (arith, total-scaled n ms vs)

weighted-scaled : (f : Pt → ℤ) (n : ℕ) (ms : List ℕ) (vs : List Pt) → weighted f (scaled n ms) vs ≡ pos n *ℤ weighted f ms vs
weighted-scaled f n [] vs = omega (arith, ints)
weighted-scaled f n (a ∷ ms) [] = omega (arith, ints)
weighted-scaled f n (a ∷ ms) (v ∷ vs) =
    rw (weighted-scaled f n ms vs, spread (pos n) (pos a *ℤ f v) (weighted f ms vs))
    (let e : pos (n * a) *ℤ f v ≡ pos n *ℤ (pos a *ℤ f v) = *ℤ_assoc (pos n) (pos a) (f v) in omega (arith, ints, e))

pub mix_add : (vs : List Pt) (W V : ℕ) (X Y P Q : ℤ) → Mix vs W X Y → Mix vs V P Q → Mix vs (W + V) (X +ℤ P) (Y +ℤ Q)
mix_add vs W V X Y P Q m n = record {
  weights = plus m.weights n.weights;
  at_w = rw (total-plus m.weights n.weights vs, m.at_w, n.at_w) refl;
  at_x = rw (weighted-plus (λ v. v.x) m.weights n.weights vs, m.at_x, n.at_x) refl;
  at_y = rw (weighted-plus (λ v. v.y) m.weights n.weights vs, m.at_y, n.at_y) refl;
}

pub mix_scale : (vs : List Pt) (n W : ℕ) (X Y : ℤ) → Mix vs W X Y → Mix vs (n * W) (pos n *ℤ X) (pos n *ℤ Y)
mix_scale vs n W X Y m = record {
  weights = scaled n m.weights;
  at_w = rw (total-scaled n m.weights vs, m.at_w) refl;
  at_x = rw (weighted-scaled (λ v. v.x) n m.weights vs, m.at_x) refl;
  at_y = rw (weighted-scaled (λ v. v.y) n m.weights vs, m.at_y) refl;
}

-- ---- more points, and members
pub mix_more : (u : Pt) (vs : List Pt) (W : ℕ) (X Y : ℤ) → Mix vs W X Y → Mix (u ∷ vs) W X Y
mix_more u vs W X Y m = record {
  weights = 0 ∷ m.weights;
  at_w = omega (arith, m.at_w);
  at_x = omega (arith, ints, m.at_x);
  at_y = omega (arith, ints, m.at_y);
}

pub mix_first : (u : Pt) (vs : List Pt) → Mix (u ∷ vs) 1 u.x u.y
mix_first u vs = record {
  weights = 1 ∷ [];
  at_w = refl;
  at_x = omega (arith, ints);
  at_y = omega (arith, ints);
}

pub mix_to : (vs : List Pt) (W V : ℕ) (X Y P Q : ℤ) → W ≡ V → X ≡ P → Y ≡ Q → Mix vs W X Y → Mix vs V P Q
mix_to vs W V X Y P Q e f g m = record {
  weights = m.weights;
  at_w = m.at_w ∙ e;
  at_x = m.at_x ∙ f;
  at_y = m.at_y ∙ g;
}

pub positive_times : (a b : ℕ) → 0 < a → 0 < b → 0 < a * b
positive_times (suc a) (suc b) h k = omega arith
positive_times zero b h k = absurd (omega arith)
positive_times (suc a) zero h k = absurd (omega arith)

-- ---- bounds by linear functions
pub record Affine (f : Pt → ℤ) : Type 0 where
  pub at_x : ℤ
  pub at_y : ℤ
  pub rest : ℤ
  pub is : (p : Pt) → f p ≡ ((at_x *ℤ p.x) +ℤ (at_y *ℤ p.y)) +ℤ rest

affine_step : (a b c w x y t X Y : ℤ) → (w *ℤ (((a *ℤ x) +ℤ (b *ℤ y)) +ℤ c)) +ℤ (((a *ℤ X) +ℤ (b *ℤ Y)) +ℤ (c *ℤ t)) ≡ ((a *ℤ ((w *ℤ x) +ℤ X)) +ℤ (b *ℤ ((w *ℤ y) +ℤ Y))) +ℤ (c *ℤ (w +ℤ t))
affine_step a b c w x y t X Y =
    ring (a ∷ b ∷ c ∷ w ∷ x ∷ y ∷ t ∷ X ∷ Y ∷ [])
    ((var 3 ⊗ (((var 0 ⊗ var 4) ⊕ (var 1 ⊗ var 5)) ⊕ var 2)) ⊕ (((var 0 ⊗ var 7) ⊕ (var 1 ⊗ var 8)) ⊕ (var 2 ⊗ var 6)))
    (((var 0 ⊗ ((var 3 ⊗ var 4) ⊕ var 7)) ⊕ (var 1 ⊗ ((var 3 ⊗ var 5) ⊕ var 8))) ⊕ (var 2 ⊗ (var 3 ⊕ var 6))) refl

pub weighted_affine : (f : Pt → ℤ) (l : Affine f) (ws : List ℕ) (vs : List Pt) → weighted f ws vs ≡ ((l.at_x *ℤ weighted (λ v. v.x) ws vs) +ℤ (l.at_y *ℤ weighted (λ v. v.y) ws vs)) +ℤ (l.rest *ℤ pos (total ws vs))
weighted_affine f l [] vs = omega (arith, ints)
weighted_affine f l (w ∷ ws) [] = omega (arith, ints)
weighted_affine f l (w ∷ ws) (u ∷ vs) =
    rw (weighted_affine f l ws vs, l.is u)
    (affine_step l.at_x l.at_y l.rest (pos w) u.x u.y (pos (total ws vs)) (weighted (λ v. v.x) ws vs) (weighted (λ v. v.y) ws vs))

-- ---- signs

-- a positive multiple has the sign
pub not_below_part : (n : ℕ) (z : ℤ) → 0 < n → pos 0 ≤ℤ (pos n *ℤ z) → pos 0 ≤ℤ z
not_below_part n (pos m) h g = omega (arith, ints)
not_below_part zero (negsuc m) h g = absurd (omega arith)
not_below_part (suc n) (negsuc m) h g = absurd (omega (arith, ints))

pub weighted_not_below : (f : Pt → ℤ) (ws : List ℕ) (vs : List Pt) → AllByRecursion (λ u. pos 0 ≤ℤ f u) vs → pos 0 ≤ℤ weighted f ws vs
weighted_not_below f [] vs h = omega (arith, ints)
weighted_not_below f (w ∷ ws) [] h = omega (arith, ints)
weighted_not_below f (w ∷ ws) (u ∷ vs) h =
    let e : pos 0 ≤ℤ (pos w *ℤ f u) = product_not_negative (pos w) (f u) (omega (arith, ints)) h.0 in
    let g : pos 0 ≤ℤ weighted f ws vs = weighted_not_below f ws vs h.1 in
    omega (arith, ints)

-- a member, once
pub mix_included : (vs : List Pt) (u : Pt) → Includes vs u → Mix vs 1 u.x u.y
mix_included [] u i = absurd i
mix_included (v ∷ vs) u (inl e) = subst (λ (z : Pt). Mix (v ∷ vs) 1 z.x z.y) (sym e) (mix_first v vs)
mix_included (v ∷ vs) u (inr i) = mix_more v vs 1 u.x u.y (mix_included vs u i)

-- what is not below 0 at each point is not below 0 on their weighted sums
pub mix_not_below : (f : Pt → ℤ) (l : Affine f) (vs : List Pt) (W : ℕ) (X Y : ℤ) → AllByRecursion (λ u. pos 0 ≤ℤ f u) vs → Mix vs W X Y → pos 0 ≤ℤ (((l.at_x *ℤ X) +ℤ (l.at_y *ℤ Y)) +ℤ (l.rest *ℤ pos W))
mix_not_below f l vs W X Y all m =
    subst (λ z. pos 0 ≤ℤ z)
    (weighted_affine f l m.weights vs
    ∙ ap (λ z. ((l.at_x *ℤ z) +ℤ (l.at_y *ℤ weighted (λ v. v.y) m.weights vs)) +ℤ (l.rest *ℤ pos (total m.weights vs))) m.at_x
    ∙ ap (λ z. ((l.at_x *ℤ X) +ℤ (l.at_y *ℤ z)) +ℤ (l.rest *ℤ pos (total m.weights vs))) m.at_y
    ∙ ap (λ z. ((l.at_x *ℤ X) +ℤ (l.at_y *ℤ Y)) +ℤ (l.rest *ℤ pos z)) m.at_w)
    (weighted_not_below f m.weights vs all)
