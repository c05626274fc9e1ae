-- Two lists have one gap at most, and lists with the same hulls have the same gap.
use Rattle.std.proofs.Common.{◌≡◌, ◌⊎◌, inl, inr, ℕ, ◌<◌, arith, refl, sym, ◌∙◌, List, [], ◌∷◌}
use Rattle.std.proofs.lemmas.Int.{ints, by_lt_z}
use Rattle.std.specs.Prelude.{ℤ, pos, negsuc, nat_abs, ◌+ℤ◌, ◌-ℤ◌, ◌*ℤ◌, ◌≤ℤ◌, ◌<ℤ◌}
use Rattle.std.specs.List.{AllByRecursion}
use Rattle.spot_terms.specs.Gaps.{KeepsApart, IsFarFrom, AreFar, IsGap}
use Rattle.spot_terms.specs.Hull.{dot, whole_pt, InHull, IsHullOf}
use Rattle.spot_terms.specs.Lists.{Includes}
use Rattle.spot_terms.specs.declared.plain.Pt.{Pt}
use Rattle.spot_terms.proofs.Hulls.{hull_at_most, hull_flat, hulls_of}
use Rattle.spot_terms.proofs.ListLemmas.{all_included}
use Rattle.spot_terms.proofs.Orders.{natural_antisymmetric}

-- there is one gap at most
pub gap_one : (a b : List Pt) (w v : ℕ) → IsGap a b w → IsGap a b v → w ≡ v
gap_one a b w v (inl f) (inl g) = f.1 ∙ sym g.1
gap_one a b w v (inl f) (inr g) = absurd (g.0 f.0)
gap_one a b w v (inr f) (inl g) = absurd (f.0 g.0)
gap_one a b w v (inr f) (inr g) = natural_antisymmetric w v (g.1.greatest w f.1.holds) (f.1.greatest v g.1.holds)

-- ---- a member at least as far along a normal as a point of the hull

-- some member is at least m along, or all are at most m - 1
far_along : (a b m : ℤ) (vs : List Pt) → ((c : Pt) × Includes vs c × (m ≤ℤ dot a b c)) ⊎ AllByRecursion (λ c. dot a b c ≤ℤ (m -ℤ pos 1)) vs
far_along a b m [] = inr tt
far_along a b m (c ∷ vs) = by_lt_z (dot a b c) m (λ less. go less (far_along a b m vs)) (λ rest. inl (c, inl refl, rest))
  where
    low : (z : ℤ) → z <ℤ m → z ≤ℤ (m -ℤ pos 1)
    low z h = omega (arith, ints)

    go : dot a b c <ℤ m → ((d : Pt) × Includes vs d × (m ≤ℤ dot a b d)) ⊎ AllByRecursion (λ d. dot a b d ≤ℤ (m -ℤ pos 1)) vs → ((d : Pt) × Includes (c ∷ vs) d × (m ≤ℤ dot a b d)) ⊎ AllByRecursion (λ d. dot a b d ≤ℤ (m -ℤ pos 1)) (c ∷ vs)
    go less (inl k) = inl (k.0, inr k.1, k.2)
    go less (inr k) = inr (low (dot a b c) less, k)

reached : (a b : ℤ) (vs : List Pt) (q : Pt) → InHull vs q → (c : Pt) × Includes vs c × (dot a b q ≤ℤ dot a b c)
reached a b vs q i = elim (far_along a b (dot a b q) vs) [ inl k ↦ k | inr all ↦ absurd (past (dot a b q) (hull_at_most a b (dot a b q -ℤ pos 1) vs (whole_pt q) all i)) ]
  where
    past : (z : ℤ) → z ≤ℤ ((z -ℤ pos 1) *ℤ pos 1) → ⊥
    past z h = omega (arith, ints)

-- a member at least as far in each of the four directions
east : (vs : List Pt) (q : Pt) → InHull vs q → (c : Pt) × Includes vs c × (q.x ≤ℤ c.x)
east vs q i = let (c, j, h) = reached (pos 1) (pos 0) vs q i in (c, j, step q.x q.y c.x c.y h)
  where
    step : (x y z w : ℤ) → ((pos 1 *ℤ x) +ℤ (pos 0 *ℤ y)) ≤ℤ ((pos 1 *ℤ z) +ℤ (pos 0 *ℤ w)) → x ≤ℤ z
    step x y z w h = omega (arith, ints)

west : (vs : List Pt) (q : Pt) → InHull vs q → (c : Pt) × Includes vs c × (c.x ≤ℤ q.x)
west vs q i = let (c, j, h) = reached (negsuc 0) (pos 0) vs q i in (c, j, step q.x q.y c.x c.y h)
  where
    step : (x y z w : ℤ) → ((negsuc 0 *ℤ x) +ℤ (pos 0 *ℤ y)) ≤ℤ ((negsuc 0 *ℤ z) +ℤ (pos 0 *ℤ w)) → z ≤ℤ x
    step x y z w h = omega (arith, ints)

north : (vs : List Pt) (q : Pt) → InHull vs q → (c : Pt) × Includes vs c × (q.y ≤ℤ c.y)
north vs q i = let (c, j, h) = reached (pos 0) (pos 1) vs q i in (c, j, step q.x q.y c.x c.y h)
  where
    step : (x y z w : ℤ) → ((pos 0 *ℤ x) +ℤ (pos 1 *ℤ y)) ≤ℤ ((pos 0 *ℤ z) +ℤ (pos 1 *ℤ w)) → y ≤ℤ w
    step x y z w h = omega (arith, ints)

south : (vs : List Pt) (q : Pt) → InHull vs q → (c : Pt) × Includes vs c × (c.y ≤ℤ q.y)
south vs q i = let (c, j, h) = reached (pos 0) (negsuc 0) vs q i in (c, j, step q.x q.y c.x c.y h)
  where
    step : (x y z w : ℤ) → ((pos 0 *ℤ x) +ℤ (negsuc 0 *ℤ y)) ≤ℤ ((pos 0 *ℤ z) +ℤ (negsuc 0 *ℤ w)) → w ≤ℤ y
    step x y z w h = omega (arith, ints)

-- ---- far points

wider : (s t u v : ℤ) → s ≤ℤ u → v ≤ℤ t → 1_000_000_000 < nat_abs (s -ℤ t) → t <ℤ s → 1_000_000_000 < nat_abs (u -ℤ v)
wider s t u v h k e l = omega (arith, ints)

wider_back : (s t u v : ℤ) → u ≤ℤ s → t ≤ℤ v → 1_000_000_000 < nat_abs (s -ℤ t) → s ≤ℤ t → 1_000_000_000 < nat_abs (u -ℤ v)
wider_back s t u v h k e l = omega (arith, ints)

-- where points of two hulls are far from each other, so are two of their members
far_members : (c d : List Pt) (p q : Pt) → InHull c p → InHull d q → IsFarFrom p q → AreFar c d
far_members c d p q i j (inl e) =
    by_lt_z q.x p.x
    (λ less. let s = east c p i in let t = west d q j in (s.0, t.0, s.1, t.1, inl (wider p.x q.x s.0.x t.0.x s.2 t.2 e less)))
    (λ rest. let s = west c p i in let t = east d q j in (s.0, t.0, s.1, t.1, inl (wider_back p.x q.x s.0.x t.0.x s.2 t.2 e rest)))
far_members c d p q i j (inr e) =
    by_lt_z q.y p.y
    (λ less. let s = north c p i in let t = south d q j in (s.0, t.0, s.1, t.1, inr (wider p.y q.y s.0.y t.0.y s.2 t.2 e less)))
    (λ rest. let s = south c p i in let t = north d q j in (s.0, t.0, s.1, t.1, inr (wider_back p.y q.y s.0.y t.0.y s.2 t.2 e rest)))

far_on : (a b c d : List Pt) → AllByRecursion (InHull c) a → AllByRecursion (InHull d) b → AreFar a b → AreFar c d
far_on a b c d h g (p, q, i, j, f) = far_members c d p q (all_included (InHull c) a p h i) (all_included (InHull d) b q g j) f

-- ---- the same gap

apart_on : (a b c d : List Pt) (w : ℕ) → AllByRecursion (InHull c) a → AllByRecursion (InHull d) b → KeepsApart c d w → KeepsApart a b w
apart_on a b c d w h g k p q u v i j = k p q u v (hull_flat a c p h i) (hull_flat b d q g j)

-- lists with the same hulls have the same gap
pub same_gap : (a b c d : List Pt) (w : ℕ) → AllByRecursion (InHull c) a → AllByRecursion (InHull a) c → AllByRecursion (InHull d) b → AllByRecursion (InHull b) d → IsGap c d w → IsGap a b w
same_gap a b c d w ac ca bd db (inl k) = inl (far_on c d a b ca db k.0, k.1)
same_gap a b c d w ac ca bd db (inr k) = inr (λ f. k.0 (far_on a b c d ac bd f), record { holds = apart_on a b c d w ac bd k.1.holds; greatest = λ z g. k.1.greatest z (apart_on c d a b z ca db g) })

-- the gap of the corners of two hulls is the gap of the points
pub gap_of_hulls : (a b c d : List Pt) (w : ℕ) → IsHullOf a c → IsHullOf b d → IsGap c d w → IsGap a b w
gap_of_hulls a b c d w h g k = same_gap a b c d w h.covers (hulls_of c a h.among) g.covers (hulls_of d b g.among) k
