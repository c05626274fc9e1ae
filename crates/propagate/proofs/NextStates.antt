-- What a polygon's points lead to a step later is within the polygon's child numbers.
use Rattle.std.proofs.Common.{◌≡◌, ℕ, ◌≤◌, arith, refl, List, [], ◌∷◌, map, inl, inr, length, sum}
use Rattle.std.proofs.lemmas.Int.{ints}
use lib.IntN.{ℤ, pos, ◌+ℤ◌, ◌-ℤ◌, ◌*ℤ◌}
use lib.Signed.{◌≤ℤ◌}
use Rattle.spot_terms.specs.declared.plain.Pt.{Pt}
use Rattle.spot_terms.specs.Frames.{at, InFrame}
use Rattle.spot_terms.specs.Hull.{InHull}
use Rattle.spot_terms.specs.Lists.{Includes, Pairwise}
use Rattle.spot_terms.specs.Reach.{Normal, along}
use Rattle.spot_terms.proofs.Hulls.{support_bounds_whole}
use Rattle.spot_terms.proofs.ListLemmas.{all_included}
use Rattle.std.specs.Prelude.{nat_abs}
use Rattle.spot_terms.specs.ChildNumbers.{child_numbers}
use Rattle.base_sets.specs.Passes.{Passes}
use Rattle.propagate.proofs.NumberLists.{normal_growths, IsChildNumber, AreChildNumbers, child_numbers-are}
use Rattle.propagate.proofs.Growths.{GrowsBy, grows}

-- what follows for each pair whose first is in the list
pub pairwise_included : {X Y : Type 0} (R S : X → Y → Type 0) (xs : List X) (ys : List Y) → ((x : X) (y : Y) → Includes xs x → R x y → S x y) → Pairwise R xs ys → Pairwise S xs ys
pairwise_included R S [] [] h p = tt
pairwise_included R S [] (y ∷ ys) h p = absurd p
pairwise_included R S (x ∷ xs) [] h p = absurd p
pairwise_included R S (x ∷ xs) (y ∷ ys) h p = (h x y (inl refl) p.0, pairwise_included R S xs ys (λ u v i r. h u v (inr i) r) p.1)

-- of what a function gives for each first
pub pairwise_firsts : {X Y Z : Type 0} (R : Z → Y → Type 0) (f : X → Z) (xs : List X) (ys : List Y) → Pairwise (λ x y. R (f x) y) xs ys → Pairwise R (map f xs) ys
pairwise_firsts R f [] [] p = tt
pairwise_firsts R f [] (y ∷ ys) p = absurd p
pairwise_firsts R f (x ∷ xs) [] p = absurd p
pairwise_firsts R f (x ∷ xs) (y ∷ ys) p = (p.0, pairwise_firsts R f xs ys p.1)

-- each of the eight
grows_each : (a k : ℕ) (p v q w : ℤ) (n : Normal × ℕ) → Includes (normal_growths a k) n → Passes a k p v q w → GrowsBy k p v q w n.0.0 n.0.1 n.1
grows_each a k p v q w n i h =
    let g = grows a k p v q w h in
    all_included (λ n. GrowsBy k p v q w n.0.0 n.0.1 n.1) (normal_growths a k) n (g.g0, (g.g1, (g.g2, (g.g3, (g.g4, (g.g5, (g.g6, (g.g7, tt)))))))) i

-- a state of the polygon's hull leads within the child numbers
pub passes_in_frame : (a k : ℕ) (vs : List Pt) (f : List ℤ) (p v q w : ℤ) → AreChildNumbers a k vs f → InHull vs (at p v) → Passes a k p v q w → InFrame (pos k) f (at q w)
passes_in_frame a k vs f p v q w s i h =
    pairwise_firsts (λ n z. along n (at q w) ≤ℤ z) (λ (n : Normal × ℕ). n.0) (normal_growths a k) f
    (pairwise_included (IsChildNumber k vs) (λ (n : Normal × ℕ) z. along n.0 (at q w) ≤ℤ z) (normal_growths a k) f (λ n z j u. within n z (grows_each a k p v q w n j h) (support_bounds_whole vs n.0.0 (pos k *ℤ n.0.0 +ℤ n.0.1) (z -ℤ pos n.1) (at p v) u i)) s)
  where
    add : (x y z g : ℤ) → x ≤ℤ (y +ℤ g) → y ≤ℤ (z -ℤ g) → x ≤ℤ z
    add x y z g h k = omega (arith, ints)

    within : (n : Normal × ℕ) (z : ℤ) → GrowsBy k p v q w n.0.0 n.0.1 n.1 → (n.0.0 *ℤ p +ℤ (pos k *ℤ n.0.0 +ℤ n.0.1) *ℤ v) ≤ℤ (z -ℤ pos n.1) → along n.0 (at q w) ≤ℤ z
    within n z h u = add _ (n.0.0 *ℤ p +ℤ (pos k *ℤ n.0.0 +ℤ n.0.1) *ℤ v) z (pos n.1) h u

-- a hull of no corners holds nothing
no_hull : (p v : ℤ) → InHull [] (at p v) → ⊥
no_hull p v i = none i.weights i.each i.some
  where
    none : (ws : List ℕ) → length ws ≡ 0 → 1 ≤ sum ws → ⊥
    none [] e h = omega (arith, h)
    none (w ∷ ws) e h = omega (arith, e)

-- and so it is in what holds all points within them
pub held_by_frame : (a : ℤ) (k : ℕ) (vs frame : List Pt) → ((u : Pt) → InFrame (pos k) (child_numbers a k vs) u → InHull frame u) → (p v q w : ℤ) → InHull vs (at p v) → Passes (nat_abs a) k p v q w → InHull frame (at q w)
held_by_frame a k [] frame h p v q w i t = absurd (no_hull p v i)
held_by_frame a k (u ∷ vs) frame h p v q w i t = h (at q w) (passes_in_frame (nat_abs a) k (u ∷ vs) (child_numbers a k (u ∷ vs)) p v q w (child_numbers-are a k u vs) i t)
