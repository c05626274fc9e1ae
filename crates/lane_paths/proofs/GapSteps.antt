-- What the tests of the gap tell.
use Rattle.std.proofs.Common.{◌≡◌, ℕ, ◌≤◌, ◌<◌, refl, sym, subst, List, inl, inr, ◌-ℤ◌}
use Rattle.std.specs.Prelude.{nat_abs}
use Rattle.std.specs.List.{AllByRecursion}
use Rattle.spot_terms.specs.Gaps.{IsFarFrom, AreFar, IsGap}
use Rattle.spot_terms.specs.Lists.{Includes}
use Rattle.spot_terms.specs.Whole.{IsRootFloor}
use Rattle.spot_terms.specs.declared.plain.Pt.{Pt}
use Rattle.spot_terms.proofs.ListLemmas.{all_of}
use Rattle.spot_terms.proofs.Orders.{below_or_at_least}
use Rattle.convex_poly.specs.Pivots.{AreDisjoint, differences}
use Rattle.convex_poly.specs.Vectors.{minus, IsShort}
use Rattle.convex_poly.specs.Polygons.{IsPolygon}
use Rattle.convex_poly.proofs.Disjoint.{meets_common, differences_hold, disjoint_or_meets}
use Rattle.lane_paths.specs.Clearances.{IsLeastClearance}
use Rattle.lane_paths.proofs.GapLaws.{gap_apart, gap_meets}
use Rattle.convex_poly.proofs.RunRows.{corner_some}

-- ---- points that aren't far from each other

-- their difference is small
near_small : (p q : Pt) → (IsFarFrom p q → ⊥) → IsShort (minus p q)
near_small p q h = record { x = near (nat_abs (p.x -ℤ q.x)) (λ l. h (inl l)); y = near (nat_abs (p.y -ℤ q.y)) (λ l. h (inr l)) }
  where
    near : (n : ℕ) → (1_000_000_000 < n → ⊥) → n ≤ 1_000_000_000
    near n g = elim (below_or_at_least 1_000_000_000 n) [ inl l ↦ absurd (g l) | inr k ↦ k ]

-- so are the vectors from all of b to one of a, and all differences
pub near_ways : (a b : List Pt) (p : Pt) → (AreFar a b → ⊥) → Includes a p → (q : Pt) → Includes b q → IsShort (minus p q)
near_ways a b p h i q j = near_small p q (λ f. h (p, q, i, j, f))

pub near_differences : (a b vectors : List Pt) → vectors ≡ differences a b → (AreFar a b → ⊥) → AllByRecursion IsShort vectors
near_differences a b vectors e h = subst (AllByRecursion IsShort) (sym e) (all_of IsShort (differences a b) (differences_hold IsShort a b (λ p q i j. near_ways a b p h i q j)))

-- ---- the answers

-- where two are far
pub gap_far : (a b : List Pt) → AreFar a b → IsGap a b 0
gap_far a b f = inl (f, refl)

-- where the two have a common point
pub gap_common : (a b : List Pt) → IsPolygon a → IsPolygon b → (AreFar a b → ⊥) → (AreDisjoint a b → ⊥) → IsGap a b 0
gap_common a b is_a is_b near h = inr (near, gap_meets a b (elim (disjoint_or_meets a b (corner_some a is_a) (corner_some b is_b)) [ inl d ↦ absurd (h d) | inr m ↦ m ]))

-- where they have none, it is the root of the least clearance; the corners that a call hands over are those of the polygon
pub gap_least : (a b us vs : List Pt) (n w : ℕ) → us ≡ a → vs ≡ b → (AreFar a b → ⊥) → AreDisjoint a b → IsLeastClearance (differences us vs) n → IsRootFloor n w → IsGap a b w
gap_least a b us vs n w e f near d s r = inr (
  near,
  gap_apart a b n w (λ m. let c = meets_common a b m in d c.p c.whole c.in_a c.in_b)
      (subst (λ (l : List Pt). IsLeastClearance (differences a l) n) f (subst (λ (l : List Pt). IsLeastClearance (differences l vs) n) e s)) r,
)
