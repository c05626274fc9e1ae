-- Laws of hulls: members, subsets, hulls of hulls, means, and what linear functions say.
use Rattle.std.proofs.Common.{◌≡◌, ℕ, zero, suc, ◌+◌, ◌*◌, ◌<◌, arith, refl, sym, ap, ◌∙◌, subst, List, [], ◌∷◌, length, inl}
use Rattle.std.specs.Prelude.{sum}
use Rattle.std.specs.List.{AllByRecursion}
use Rattle.std.proofs.lemmas.Int.{ints}
use Rattle.std.proofs.lemmas.List.Sums.{sum_by-cons}
use lib.IntN.{ℤ, pos, negsuc, neg_ℤ, ◌+ℤ◌, ◌-ℤ◌, ◌*ℤ◌}
use lib.Signed.{◌≤ℤ◌}
use Rattle.spot_terms.specs.declared.plain.Pt.{Pt}
use Rattle.spot_terms.specs.Hull.{weighted, FractionPt, whole_pt, InHullAt, InHull, IsHullOf, dot, IsSupport}
use Rattle.spot_terms.specs.Lists.{Includes}
use Rattle.spot_terms.proofs.ListLemmas.{all_included, all_later, all_of, includes_itself}
use Rattle.spot_terms.proofs.Products.{*ℤ_assoc, times_swap}
use Rattle.spot_terms.proofs.Ring.{ring, var, num, ◌⊕◌, ◌⊖◌, ◌⊗◌}
use Rattle.spot_terms.proofs.Mixes.{total, Mix, mix_none, mix_add, mix_scale, mix_to, mix_included, positive_times, Affine, mix_not_below, not_below_part}
use Rattle.spot_terms.proofs.Orders.{product_not_negative, natural_of, difference_not_negative, at_most_of_difference, one_times}

-- ---- weights of any length, and one weight for each corner

-- the sums of weighted points that q is the mean of
pub record MixAt (vs : List Pt) (q : FractionPt) : Type 0 where
  pub n : ℕ
  pub X : ℤ
  pub Y : ℤ
  pub some : 0 < n
  pub mix : Mix vs n X Y
  pub x : pos n *ℤ q.x ≡ pos q.d *ℤ X
  pub y : pos n *ℤ q.y ≡ pos q.d *ℤ Y

sum-cons : (w : ℕ) (ws : List ℕ) → sum (w ∷ ws) ≡ w + sum ws
sum-cons w ws = sum_by-cons (λ (x : ℕ). x) w ws

total-sum : (ws : List ℕ) (vs : List Pt) → length ws ≡ length vs → total ws vs ≡ sum ws
total-sum [] vs e = refl
total-sum (w ∷ ws) [] e = absurd (omega (arith, e))
total-sum (w ∷ ws) (v ∷ vs) e = ap (λ n. w + n) (total-sum ws vs (omega (arith, e))) ∙ sym (sum-cons w ws)

pub hull_mix_at : (vs : List Pt) (q : FractionPt) → InHullAt vs q → MixAt vs q
hull_mix_at vs q h = record {
  n = sum h.weights;
  X = weighted (λ c. c.x) h.weights vs;
  Y = weighted (λ c. c.y) h.weights vs;
  some = omega (arith, h.some);
  mix = record { weights = h.weights; at_w = total-sum h.weights vs h.each; at_x = refl; at_y = refl };
  x = h.x;
  y = h.y;
}

-- a weight for each point
abbrev fit : List ℕ → List Pt → List ℕ
fit ws [] = []
fit [] (v ∷ vs) = 0 ∷ fit [] vs
fit (w ∷ ws) (v ∷ vs) = w ∷ fit ws vs

length-fit : (ws : List ℕ) (vs : List Pt) → length (fit ws vs) ≡ length vs
length-fit [] [] = refl
length-fit (w ∷ ws) [] = refl
length-fit [] (v ∷ vs) = ap (λ n. suc n) (length-fit [] vs)
length-fit (w ∷ ws) (v ∷ vs) = ap (λ n. suc n) (length-fit ws vs)

sum-fit : (ws : List ℕ) (vs : List Pt) → sum (fit ws vs) ≡ total ws vs
sum-fit [] [] = refl
sum-fit (w ∷ ws) [] = refl
sum-fit [] (v ∷ vs) = sum-cons 0 (fit [] vs) ∙ omega (arith, sum-fit [] vs)
sum-fit (w ∷ ws) (v ∷ vs) = sum-cons w (fit ws vs) ∙ ap (λ n. w + n) (sum-fit ws vs)

weighted-fit : (f : Pt → ℤ) (ws : List ℕ) (vs : List Pt) → weighted f (fit ws vs) vs ≡ weighted f ws vs
weighted-fit f [] [] = refl
weighted-fit f (w ∷ ws) [] = refl
weighted-fit f [] (v ∷ vs) = ap (λ z. (pos 0 *ℤ f v) +ℤ z) (weighted-fit f [] vs) ∙ omega (arith, ints)
weighted-fit f (w ∷ ws) (v ∷ vs) = ap (λ z. (pos w *ℤ f v) +ℤ z) (weighted-fit f ws vs)

pub mix_hull_at : (vs : List Pt) (q : FractionPt) → MixAt vs q → InHullAt vs q
mix_hull_at vs q m =
    let e : sum (fit m.mix.weights vs) ≡ m.n = sum-fit m.mix.weights vs ∙ m.mix.at_w in record {
      weights = fit m.mix.weights vs;
      each = length-fit m.mix.weights vs;
      some = omega (arith, e, m.some);
      x = ap (λ (n : ℕ). pos n *ℤ q.x) e ∙ m.x ∙ ap (λ z. pos q.d *ℤ z) (sym (weighted-fit (λ v. v.x) m.mix.weights vs ∙ m.mix.at_x));
      y = ap (λ (n : ℕ). pos n *ℤ q.y) e ∙ m.y ∙ ap (λ z. pos q.d *ℤ z) (sym (weighted-fit (λ v. v.y) m.mix.weights vs ∙ m.mix.at_y));
    }

-- ---- whole points

-- n times q is a sum of weighted points
pub record MixOf (vs : List Pt) (q : Pt) : Type 0 where
  pub n : ℕ
  pub some : 0 < n
  pub mix : Mix vs n (pos n *ℤ q.x) (pos n *ℤ q.y)

pub hull_mix : (vs : List Pt) (q : Pt) → InHull vs q → MixOf vs q
hull_mix vs q h = let m = hull_mix_at vs (whole_pt q) h in
    record { n = m.n; some = m.some; mix = mix_to vs m.n m.n m.X m.Y _ _ refl (sym (one_times m.X) ∙ sym m.x) (sym (one_times m.Y) ∙ sym m.y) m.mix }

pub mix_hull : (vs : List Pt) (q : Pt) (W : ℕ) → 0 < W → Mix vs W (pos W *ℤ q.x) (pos W *ℤ q.y) → InHull vs q
mix_hull vs q W h m = mix_hull_at vs (whole_pt q) (record { n = W; X = pos W *ℤ q.x; Y = pos W *ℤ q.y; some = h; mix = m; x = sym (one_times (pos W *ℤ q.x)); y = sym (one_times (pos W *ℤ q.y)) })

-- ---- members

pub hull_included : (vs : List Pt) (u : Pt) → Includes vs u → InHull vs u
hull_included vs u i = mix_hull vs u 1 (omega arith) (mix_to vs 1 1 u.x u.y (pos 1 *ℤ u.x) (pos 1 *ℤ u.y) refl (sym (one_times u.x)) (sym (one_times u.y)) (mix_included vs u i))

pub hull_first : (u : Pt) (vs : List Pt) → InHull (u ∷ vs) u
hull_first u vs = hull_included (u ∷ vs) u (inl refl)

-- ---- the hull of points of a hull

-- a multiple of a sum of weighted points
pub record Multiple (vs : List Pt) (W : ℕ) (X Y : ℤ) : Type 0 where
  pub times : ℕ
  pub some : 0 < times
  pub mix : Mix vs (times * W) (pos times *ℤ X) (pos times *ℤ Y)

flat_z : (n c w x s : ℤ) → ((n *ℤ w) *ℤ (c *ℤ x)) +ℤ (c *ℤ (n *ℤ s)) ≡ (n *ℤ c) *ℤ ((w *ℤ x) +ℤ s)
flat_z n c w x s =
    ring (n ∷ c ∷ w ∷ x ∷ s ∷ []) (((var 0 ⊗ var 2) ⊗ (var 1 ⊗ var 3)) ⊕ (var 1 ⊗ (var 0 ⊗ var 4))) ((var 0 ⊗ var 1) ⊗ ((var 2 ⊗ var 3) ⊕ var 4)) refl

-- weighted points of us, each in the hull of vs, are weighted points of vs, up to a multiple
mix_flat : (us vs : List Pt) (ws : List ℕ) → AllByRecursion (InHull vs) us → Multiple vs (total ws us) (weighted (λ v. v.x) ws us) (weighted (λ v. v.y) ws us)
mix_flat us vs [] h = record { times = 1; some = omega arith; mix = mix_none vs }
mix_flat [] vs (w ∷ ws) h = record { times = 1; some = omega arith; mix = mix_none vs }
mix_flat (u ∷ us) vs (w ∷ ws) h =
    let r = mix_flat us vs ws h.1 in
    let m = hull_mix vs u h.0 in
    record {
      times = r.times * m.n;
      some = positive_times r.times m.n r.some m.some;
      mix = mix_to vs (r.times * w * m.n + m.n * (r.times * total ws us)) (r.times * m.n * (w + total ws us)) _ _ _ _ (omega arith)
          (flat_z (pos r.times) (pos m.n) (pos w) u.x (weighted (λ v. v.x) ws us))
          (flat_z (pos r.times) (pos m.n) (pos w) u.y (weighted (λ v. v.y) ws us))
          (mix_add vs _ _ _ _ _ _
          (mix_scale vs (r.times * w) m.n _ _ m.mix)
          (mix_scale vs m.n (r.times * total ws us) _ _ r.mix));
    }

-- what lies in the hull of points of a hull lies in that hull
pub hull_flat : (us vs : List Pt) (q : FractionPt) → AllByRecursion (InHull vs) us → InHullAt us q → InHullAt vs q
hull_flat us vs q h i =
    let m = hull_mix_at us q i in
    let r = mix_flat us vs m.mix.weights h in
    mix_hull_at vs q (record {
      n = r.times * total m.mix.weights us;
      X = pos r.times *ℤ weighted (λ v. v.x) m.mix.weights us;
      Y = pos r.times *ℤ weighted (λ v. v.y) m.mix.weights us;
      some = positive_times r.times (total m.mix.weights us) r.some (omega (arith, m.mix.at_w, m.some));
      mix = r.mix;
      x = step r.times m.n (total m.mix.weights us) q.x (pos q.d) m.X (weighted (λ v. v.x) m.mix.weights us) m.mix.at_w m.mix.at_x m.x;
      y = step r.times m.n (total m.mix.weights us) q.y (pos q.d) m.Y (weighted (λ v. v.y) m.mix.weights us) m.mix.at_w m.mix.at_y m.y;
    })
  where
    step : (t n k : ℕ) (z d X Y : ℤ) → k ≡ n → Y ≡ X → pos n *ℤ z ≡ d *ℤ X → pos (t * k) *ℤ z ≡ d *ℤ (pos t *ℤ Y)
    step t n k z d X Y e f h =
        ap (λ (m : ℕ). pos (t * m) *ℤ z) e ∙ *ℤ_assoc (pos t) (pos n) z ∙ ap (λ u. pos t *ℤ u) h ∙ times_swap (pos t) d X ∙ ap (λ u. d *ℤ (pos t *ℤ u)) (sym f)

-- members lie in the hull
pub hulls_of : (us vs : List Pt) → AllByRecursion (Includes vs) us → AllByRecursion (InHull vs) us
hulls_of [] vs h = tt
hulls_of (u ∷ us) vs h = (hull_included vs u h.0, hulls_of us vs h.1)

-- more points, greater hull
pub hull_subset : (us vs : List Pt) (q : FractionPt) → AllByRecursion (Includes vs) us → InHullAt us q → InHullAt vs q
hull_subset us vs q h i = hull_flat us vs q (hulls_of us vs h) i

pub hull_more : (u : Pt) (vs : List Pt) (q : FractionPt) → InHullAt vs q → InHullAt (u ∷ vs) q
hull_more u vs q h = hull_subset vs (u ∷ vs) q (all_later u vs vs (includes_itself vs)) h

-- a point of the segment between two points of a hull
pub hull_mean : (vs : List Pt) (a b q : Pt) (m n : ℕ) → 0 < m + n → pos (m + n) *ℤ q.x ≡ pos m *ℤ a.x +ℤ pos n *ℤ b.x → pos (m + n) *ℤ q.y ≡ pos m *ℤ a.y +ℤ pos n *ℤ b.y → InHull vs a → InHull vs b → InHull vs q
hull_mean vs a b q m n some x y h k =
    hull_flat (a ∷ b ∷ []) vs (whole_pt q) (h, (k, tt))
    (mix_hull (a ∷ b ∷ []) q (m + (n + 0)) (omega (arith, some)) (record {
      weights = m ∷ n ∷ [];
      at_w = refl;
      at_x = omega (arith, ints, x);
      at_y = omega (arith, ints, y);
    }))

-- ---- fractions and whole points

-- one point, whatever stands above and below
pub hull_times : (vs : List Pt) (q : FractionPt) (n : ℕ) → InHullAt vs q → InHullAt vs (record { x = pos n *ℤ q.x; y = pos n *ℤ q.y; d = n * q.d })
hull_times vs q n h = record {
  weights = h.weights;
  each = h.each;
  some = h.some;
  x = step (pos (sum h.weights)) q.x (pos q.d) (weighted (λ c. c.x) h.weights vs) h.x;
  y = step (pos (sum h.weights)) q.y (pos q.d) (weighted (λ c. c.y) h.weights vs) h.y;
}
  where
    step : (w z d X : ℤ) → w *ℤ z ≡ d *ℤ X → w *ℤ (pos n *ℤ z) ≡ (pos n *ℤ d) *ℤ X
    step w z d X e = times_swap w (pos n) z ∙ ap (λ u. pos n *ℤ u) e ∙ sym (*ℤ_assoc (pos n) d X)

-- ---- linear functions

affine_times : (a b c w x y : ℤ) → ((a *ℤ (w *ℤ x)) +ℤ (b *ℤ (w *ℤ y))) +ℤ (c *ℤ w) ≡ w *ℤ (((a *ℤ x) +ℤ (b *ℤ y)) +ℤ c)
affine_times a b c w x y =
    ring (a ∷ b ∷ c ∷ w ∷ x ∷ y ∷ [])
    (((var 0 ⊗ (var 3 ⊗ var 4)) ⊕ (var 1 ⊗ (var 3 ⊗ var 5))) ⊕ (var 2 ⊗ var 3))
    (var 3 ⊗ (((var 0 ⊗ var 4) ⊕ (var 1 ⊗ var 5)) ⊕ var 2)) refl

-- what is not below 0 at each point of a list is not below 0 on its hull
pub hull_not_below : (f : Pt → ℤ) (l : Affine f) (vs : List Pt) (q : Pt) → AllByRecursion (λ u. pos 0 ≤ℤ f u) vs → InHull vs q → pos 0 ≤ℤ f q
hull_not_below f l vs q a h =
    let m = hull_mix vs q h in
    not_below_part m.n (f q) m.some
    (subst (λ z. pos 0 ≤ℤ z) (affine_times l.at_x l.at_y l.rest (pos m.n) q.x q.y ∙ ap (λ z. pos m.n *ℤ z) (sym (l.is q)))
    (mix_not_below f l vs m.n _ _ a m.mix))

-- what lies below a line at each point of a list lies below it on its hull, at fractions too
pub hull_at_most : (a b c : ℤ) (vs : List Pt) (q : FractionPt) → AllByRecursion (λ u. dot a b u ≤ℤ c) vs → InHullAt vs q → (a *ℤ q.x +ℤ b *ℤ q.y) ≤ℤ (c *ℤ pos q.d)
hull_at_most a b c vs q all h =
    let m = hull_mix_at vs q h in
    let low : pos 0 ≤ℤ ((((pos 0 -ℤ a) *ℤ m.X) +ℤ ((pos 0 -ℤ b) *ℤ m.Y)) +ℤ (c *ℤ pos m.n)) =
    mix_not_below (λ u. c -ℤ dot a b u) (record { at_x = pos 0 -ℤ a; at_y = pos 0 -ℤ b; rest = c; is = λ p. ring (a ∷ b ∷ c ∷ p.x ∷ p.y ∷ []) (var 2 ⊖ ((var 0 ⊗ var 3) ⊕ (var 1 ⊗ var 4))) ((((num (pos 0) ⊖ var 0) ⊗ var 3) ⊕ ((num (pos 0) ⊖ var 1) ⊗ var 4)) ⊕ var 2) refl }) vs m.n m.X m.Y (lowered vs all) m.mix in
    at_most_of_difference _ _ (not_below_part m.n ((c *ℤ pos q.d) -ℤ (a *ℤ q.x +ℤ b *ℤ q.y)) m.some
    (subst (λ z. pos 0 ≤ℤ z) (moved (pos m.n) (pos q.d) m.X m.Y q.x q.y m.x m.y) (product_not_negative (pos q.d) _ (omega (arith, ints)) low)))
  where
    lowered : (us : List Pt) → AllByRecursion (λ u. dot a b u ≤ℤ c) us → AllByRecursion (λ u. pos 0 ≤ℤ (c -ℤ dot a b u)) us
    lowered [] g = tt
    lowered (u ∷ us) g = (step (dot a b u) g.0, lowered us g.1)
      where
        step : (z : ℤ) → z ≤ℤ c → pos 0 ≤ℤ (c -ℤ z)
        step z g = omega (arith, ints)

    moved : (n d X Y x y : ℤ) → n *ℤ x ≡ d *ℤ X → n *ℤ y ≡ d *ℤ Y → d *ℤ ((((pos 0 -ℤ a) *ℤ X) +ℤ ((pos 0 -ℤ b) *ℤ Y)) +ℤ (c *ℤ n)) ≡ n *ℤ ((c *ℤ d) -ℤ ((a *ℤ x) +ℤ (b *ℤ y)))
    moved n d X Y x y e f =
        ring (a ∷ b ∷ c ∷ d ∷ n ∷ X ∷ Y ∷ []) (var 3 ⊗ ((((num (pos 0) ⊖ var 0) ⊗ var 5) ⊕ ((num (pos 0) ⊖ var 1) ⊗ var 6)) ⊕ (var 2 ⊗ var 4))) (((var 2 ⊗ var 3) ⊗ var 4) ⊖ ((var 0 ⊗ (var 3 ⊗ var 5)) ⊕ (var 1 ⊗ (var 3 ⊗ var 6)))) refl
        ∙ ap (λ z. ((c *ℤ d) *ℤ n) -ℤ ((a *ℤ z) +ℤ (b *ℤ (d *ℤ Y)))) (sym e) ∙ ap (λ z. ((c *ℤ d) *ℤ n) -ℤ ((a *ℤ (n *ℤ x)) +ℤ (b *ℤ z))) (sym f)
        ∙ ring (a ∷ b ∷ c ∷ d ∷ n ∷ x ∷ y ∷ []) (((var 2 ⊗ var 3) ⊗ var 4) ⊖ ((var 0 ⊗ (var 4 ⊗ var 5)) ⊕ (var 1 ⊗ (var 4 ⊗ var 6)))) (var 4 ⊗ ((var 2 ⊗ var 3) ⊖ ((var 0 ⊗ var 5) ⊕ (var 1 ⊗ var 6)))) refl

-- ---- supports

-- a support bounds the hull
pub support_bounds : (vs : List Pt) (nx ny h : ℤ) (q : FractionPt) → IsSupport vs nx ny h → InHullAt vs q → (nx *ℤ q.x +ℤ ny *ℤ q.y) ≤ℤ (h *ℤ pos q.d)
support_bounds vs nx ny h q s i = hull_at_most nx ny h vs q (all_of (λ u. dot nx ny u ≤ℤ h) vs s.bound) i

pub support_bounds_whole : (vs : List Pt) (nx ny h : ℤ) (q : Pt) → IsSupport vs nx ny h → InHull vs q → dot nx ny q ≤ℤ h
support_bounds_whole vs nx ny h q s i = step (dot nx ny q) h (support_bounds vs nx ny h (whole_pt q) s i)
  where
    step : (z w : ℤ) → z ≤ℤ (w *ℤ pos 1) → z ≤ℤ w
    step z w g = omega (arith, ints)

-- lists with one hull have one support
pub support_once : (us vs : List Pt) (nx ny g h : ℤ) → AllByRecursion (InHull vs) us → IsSupport us nx ny g → IsSupport vs nx ny h → g ≤ℤ h
support_once us vs nx ny g h in_vs s t =
    let (c, i, e) = s.reached in
    subst (λ z. z ≤ℤ h) e (support_bounds_whole vs nx ny h c t (all_included (InHull vs) us c in_vs i))

-- ---- bounds of the coordinates

one_x : (c x y : ℤ) → ((pos 1 *ℤ x) +ℤ (pos 0 *ℤ y)) ≤ℤ (c *ℤ pos 1) → x ≤ℤ c
one_x c x y h = omega (arith, ints)

one_y : (c x y : ℤ) → ((pos 0 *ℤ x) +ℤ (pos 1 *ℤ y)) ≤ℤ (c *ℤ pos 1) → y ≤ℤ c
one_y c x y h = omega (arith, ints)

less_x : (c x y : ℤ) → ((negsuc 0 *ℤ x) +ℤ (pos 0 *ℤ y)) ≤ℤ (neg_ℤ c *ℤ pos 1) → c ≤ℤ x
less_x c x y h = omega (arith, ints)

less_y : (c x y : ℤ) → ((pos 0 *ℤ x) +ℤ (negsuc 0 *ℤ y)) ≤ℤ (neg_ℤ c *ℤ pos 1) → c ≤ℤ y
less_y c x y h = omega (arith, ints)

each : (P Q : Pt → Type 0) → ((u : Pt) → P u → Q u) → (vs : List Pt) → AllByRecursion P vs → AllByRecursion Q vs
each P Q f [] h = tt
each P Q f (v ∷ vs) h = (f v h.0, each P Q f vs h.1)

pub hull_x_at_most : (c : ℤ) (vs : List Pt) (q : Pt) → AllByRecursion (λ u. u.x ≤ℤ c) vs → InHull vs q → q.x ≤ℤ c
hull_x_at_most c vs q all h = one_x c q.x q.y (hull_at_most (pos 1) (pos 0) c vs (whole_pt q) (each (λ u. u.x ≤ℤ c) (λ u. dot (pos 1) (pos 0) u ≤ℤ c) (λ u k. step u.x u.y k) vs all) h)
  where
    step : (x y : ℤ) → x ≤ℤ c → ((pos 1 *ℤ x) +ℤ (pos 0 *ℤ y)) ≤ℤ c
    step x y k = omega (arith, ints)

pub hull_y_at_most : (c : ℤ) (vs : List Pt) (q : Pt) → AllByRecursion (λ u. u.y ≤ℤ c) vs → InHull vs q → q.y ≤ℤ c
hull_y_at_most c vs q all h = one_y c q.x q.y (hull_at_most (pos 0) (pos 1) c vs (whole_pt q) (each (λ u. u.y ≤ℤ c) (λ u. dot (pos 0) (pos 1) u ≤ℤ c) (λ u k. step u.x u.y k) vs all) h)
  where
    step : (x y : ℤ) → y ≤ℤ c → ((pos 0 *ℤ x) +ℤ (pos 1 *ℤ y)) ≤ℤ c
    step x y k = omega (arith, ints)

pub hull_x_at_least : (c : ℤ) (vs : List Pt) (q : Pt) → AllByRecursion (λ u. c ≤ℤ u.x) vs → InHull vs q → c ≤ℤ q.x
hull_x_at_least c vs q all h = less_x c q.x q.y (hull_at_most (negsuc 0) (pos 0) (neg_ℤ c) vs (whole_pt q) (each (λ u. c ≤ℤ u.x) (λ u. dot (negsuc 0) (pos 0) u ≤ℤ neg_ℤ c) (λ u k. step u.x u.y k) vs all) h)
  where
    step : (x y : ℤ) → c ≤ℤ x → ((negsuc 0 *ℤ x) +ℤ (pos 0 *ℤ y)) ≤ℤ neg_ℤ c
    step x y k = omega (arith, ints)

pub hull_y_at_least : (c : ℤ) (vs : List Pt) (q : Pt) → AllByRecursion (λ u. c ≤ℤ u.y) vs → InHull vs q → c ≤ℤ q.y
hull_y_at_least c vs q all h = less_y c q.x q.y (hull_at_most (pos 0) (negsuc 0) (neg_ℤ c) vs (whole_pt q) (each (λ u. c ≤ℤ u.y) (λ u. dot (pos 0) (negsuc 0) u ≤ℤ neg_ℤ c) (λ u k. step u.x u.y k) vs all) h)
  where
    step : (x y : ℤ) → c ≤ℤ y → ((pos 0 *ℤ x) +ℤ (negsuc 0 *ℤ y)) ≤ℤ neg_ℤ c
    step x y k = omega (arith, ints)

-- ---- hulls of points and of their corners

-- the points and the corners of their hull have one hull, at fractions too
pub hull_to_points : (points corners : List Pt) (q : FractionPt) → IsHullOf points corners → InHullAt corners q → InHullAt points q
hull_to_points points corners q h i = hull_subset corners points q h.among i

pub hull_to_corners : (points corners : List Pt) (q : FractionPt) → IsHullOf points corners → InHullAt points q → InHullAt corners q
hull_to_corners points corners q h i = hull_flat points corners q h.covers i

-- and one support
pub support_of_corners : (points corners : List Pt) (nx ny h : ℤ) → IsHullOf points corners → IsSupport corners nx ny h → IsSupport points nx ny h
support_of_corners points corners nx ny h u s = record {
  bound = λ c i. support_bounds_whole corners nx ny h c s (all_included (InHull corners) points c u.covers i);
  reached = let (c, i, e) = s.reached in (c, all_included (Includes points) corners c u.among i, e);
}

-- where two points of equal x lie in a hull, so do all whole points between
pub hull_between : (vs : List Pt) (x low y high : ℤ) → low ≤ℤ y → y ≤ℤ high → InHull vs (record { x = x; y = low }) → InHull vs (record { x = x; y = high }) → InHull vs (record { x = x; y = y })
hull_between vs x low y high l h a b = go (natural_of (high -ℤ y) (difference_not_negative y high h)) (natural_of (y -ℤ low) (difference_not_negative low y l))
  where
    sum_x : (m n : ℕ) → pos (m + n) *ℤ x ≡ pos m *ℤ x +ℤ pos n *ℤ x
    sum_x m n = ring (pos m ∷ pos n ∷ x ∷ []) ((var 0 ⊕ var 1) ⊗ var 2) ((var 0 ⊗ var 2) ⊕ (var 1 ⊗ var 2)) refl

    sum_y : (m n : ℕ) → high -ℤ y ≡ pos m → y -ℤ low ≡ pos n → pos (m + n) *ℤ y ≡ pos m *ℤ low +ℤ pos n *ℤ high
    sum_y m n e f =
        ring (pos m ∷ pos n ∷ y ∷ []) ((var 0 ⊕ var 1) ⊗ var 2) ((var 0 ⊗ var 2) ⊕ (var 1 ⊗ var 2)) refl
        ∙ ap (λ z. (z *ℤ y) +ℤ (pos n *ℤ y)) (sym e) ∙ ap (λ z. ((high -ℤ y) *ℤ y) +ℤ (z *ℤ y)) (sym f)
        ∙ ring (low ∷ y ∷ high ∷ []) (((var 2 ⊖ var 1) ⊗ var 1) ⊕ ((var 1 ⊖ var 0) ⊗ var 1)) (((var 2 ⊖ var 1) ⊗ var 0) ⊕ ((var 1 ⊖ var 0) ⊗ var 2)) refl
        ∙ ap (λ z. (z *ℤ low) +ℤ ((y -ℤ low) *ℤ high)) e ∙ ap (λ z. (pos m *ℤ low) +ℤ (z *ℤ high)) f

    zeros : (m n : ℕ) → high -ℤ y ≡ pos m → y -ℤ low ≡ pos n → m + n ≡ 0 → low ≡ y
    zeros m n e f g = omega (arith, ints)

    go : (n : ℕ) × (high -ℤ y ≡ pos n) → (n : ℕ) × (y -ℤ low ≡ pos n) → InHull vs (record { x = x; y = y })
    go (zero, e) (zero, f) = subst (λ (z : ℤ). InHull vs (record { x = x; y = z })) (zeros 0 0 e f refl) a
    go (suc m, e) (n, f) = hull_mean vs (record { x = x; y = low }) (record { x = x; y = high }) (record { x = x; y = y }) (suc m) n (omega arith) (sum_x (suc m) n) (sum_y (suc m) n e f) a b
    go (zero, e) (suc n, f) = hull_mean vs (record { x = x; y = low }) (record { x = x; y = high }) (record { x = x; y = y }) 0 (suc n) (omega arith) (sum_x 0 (suc n)) (sum_y 0 (suc n) e f) a b
