-- Sums of a point of one hull and a point of another.
use Rattle.std.proofs.Common.{◌≡◌, ◌∙◌, ℕ, ◌+◌, arith, refl, ap, subst, List, [], ◌∷◌, map, ℤ, pos, ◌+ℤ◌, ◌*ℤ◌}
use Rattle.std.proofs.lemmas.Int.{ints}
use Rattle.spot_terms.specs.Hull.{weighted, whole_pt, InHull}
use Rattle.spot_terms.specs.LanePolygons.{add_pt, sums}
use Rattle.spot_terms.specs.Lists.{Includes}
use Rattle.spot_terms.specs.declared.plain.Pt.{Pt}
use Rattle.spot_terms.proofs.Hulls.{hull_flat, hull_mix, hull_subset, mix_hull}
use Rattle.spot_terms.proofs.ListLemmas.{all_of, includes_flat_map}
use Rattle.spot_terms.proofs.Members.{all_in_map}
use Rattle.spot_terms.proofs.Mixes.{total}
use Rattle.spot_terms.proofs.Ring.{ring, var, ◌⊕◌, ◌⊗◌}
use Rattle.convex_poly.proofs.Merges.{add_swap}

-- ---- a hull that is moved

total-map : (g : Pt → Pt) (ws : List ℕ) (vs : List Pt) → total ws (map g vs) ≡ total ws vs
total-map g [] vs = refl
total-map g (w ∷ ws) [] = refl
total-map g (w ∷ ws) (v ∷ vs) = ap (λ n. w + n) (total-map g ws vs)

weighted-moved : (f : Pt → ℤ) (g : Pt → Pt) (c : ℤ) → ((v : Pt) → f (g v) ≡ c +ℤ f v) → (ws : List ℕ) (vs : List Pt) → weighted f ws (map g vs) ≡ (c *ℤ pos (total ws vs)) +ℤ weighted f ws vs
weighted-moved f g c h [] vs = omega (arith, ints)
weighted-moved f g c h (w ∷ ws) [] = omega (arith, ints)
weighted-moved f g c h (w ∷ ws) (v ∷ vs) = rw (h v, weighted-moved f g c h ws vs) (step c (pos w) (f v) (pos (total ws vs)) (weighted f ws vs))
  where
    step : (c w a t m : ℤ) → (w *ℤ (c +ℤ a)) +ℤ ((c *ℤ t) +ℤ m) ≡ (c *ℤ (w +ℤ t)) +ℤ ((w *ℤ a) +ℤ m)
    step c w a t m = ring (c ∷ w ∷ a ∷ t ∷ m ∷ []) ((var 1 ⊗ (var 0 ⊕ var 2)) ⊕ ((var 0 ⊗ var 3) ⊕ var 4)) ((var 0 ⊗ (var 1 ⊕ var 3)) ⊕ ((var 1 ⊗ var 2) ⊕ var 4)) refl

hull_moved : (o : Pt) (vs : List Pt) (p : Pt) → InHull vs p → InHull (map (add_pt o) vs) (add_pt o p)
hull_moved o vs p h =
    let m = hull_mix vs p h in
    mix_hull (map (add_pt o) vs) (add_pt o p) m.n m.some (record {
      weights = m.mix.weights;
      at_w = total-map (add_pt o) m.mix.weights vs ∙ m.mix.at_w;
      at_x = weighted-moved (λ v. v.x) (add_pt o) o.x (λ v. refl) m.mix.weights vs ∙ both o.x p.x m.n (total m.mix.weights vs) _ m.mix.at_w m.mix.at_x;
      at_y = weighted-moved (λ v. v.y) (add_pt o) o.y (λ v. refl) m.mix.weights vs ∙ both o.y p.y m.n (total m.mix.weights vs) _ m.mix.at_w m.mix.at_y;
    })
  where
    spread : (c z n : ℤ) → (c *ℤ n) +ℤ (n *ℤ z) ≡ n *ℤ (c +ℤ z)
    spread c z n = ring (c ∷ z ∷ n ∷ []) ((var 0 ⊗ var 2) ⊕ (var 2 ⊗ var 1)) (var 2 ⊗ (var 0 ⊕ var 1)) refl

    both : (c z : ℤ) (n t : ℕ) (X : ℤ) → t ≡ n → X ≡ pos n *ℤ z → (c *ℤ pos t) +ℤ X ≡ pos n *ℤ (c +ℤ z)
    both c z n t X e f = ap (λ (k : ℕ). (c *ℤ pos k) +ℤ X) e ∙ ap (λ x. (c *ℤ pos n) +ℤ x) f ∙ spread c z (pos n)

-- ---- the hull of all sums

-- a point of the one list plus a point of the hull of the other
add_member : (ps qs : List Pt) (p q : Pt) → Includes ps p → InHull qs q → InHull (sums ps qs) (add_pt p q)
add_member ps qs p q i h =
    hull_subset (map (add_pt p) qs) (sums ps qs) (whole_pt (add_pt p q))
    (all_of (Includes (sums ps qs)) (map (add_pt p) qs) (λ y j. includes_flat_map (λ u. map (add_pt u) qs) ps p y i j))
    (hull_moved p qs q h)

-- a point of the one hull plus a point of the other is in the hull of the sums
pub hull_sums : (ps qs : List Pt) (p q : Pt) → InHull ps p → InHull qs q → InHull (sums ps qs) (add_pt p q)
hull_sums ps qs p q h k =
    subst (InHull (sums ps qs)) (add_swap q p)
    (hull_flat (map (add_pt q) ps) (sums ps qs) (whole_pt (add_pt q p))
    (all_in_map (InHull (sums ps qs)) (add_pt q) ps (λ u i. subst (InHull (sums ps qs)) (add_swap u q) (add_member ps qs u q i k)))
    (hull_moved q ps p h))
