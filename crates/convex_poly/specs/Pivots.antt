-- Differences of the points of two lists, and what tells that 0 is outside of their hull.
use Rattle.std.specs.Prelude.{◌≡◌, ◌⊎◌, ◌≤◌, List, [], ◌∷◌, ◌++◌, pos, ◌<ℤ◌, ◌≤ℤ◌}
use Rattle.spot_terms.specs.declared.plain.Pt.{Pt}
use Rattle.spot_terms.specs.Hull.{FractionPt, InHullAt}
use Rattle.spot_terms.specs.Lists.{Includes}
use Rattle.convex_poly.specs.Vectors.{inner_product, minus, turn_of}

-- no fraction point is in both hulls
abbrev pub AreDisjoint : List Pt → List Pt → Type 0
AreDisjoint a b = (p : FractionPt) → 1 ≤ p.d → InHullAt a p → InHullAt b p → ⊥

abbrev pub each_minus : Pt → List Pt → List Pt
each_minus p [] = []
each_minus p (q ∷ qs) = minus p q ∷ each_minus p qs

-- all differences of a point of the one and a point of the other
abbrev pub differences : List Pt → List Pt → List Pt
differences [] qs = []
differences (p ∷ ps) qs = each_minus p qs ++ differences ps qs

-- r is left of p, or in its direction
abbrev pub IsLeftwards : Pt → Pt → Type 0
IsLeftwards p r = (pos 0 <ℤ turn_of p r) ⊎ ((turn_of p r ≡ pos 0) × (pos 0 <ℤ inner_product p r))

-- all ways from a point of b to p are left of v, or in its direction
abbrev pub AreLeftwards : Pt → Pt → List Pt → Type 0
AreLeftwards v p b = (q : Pt) → Includes b q → IsLeftwards v (minus p q)

-- all points are left of one of them, or in its direction
pub record IsPivot (vs : List Pt) (p : Pt) : Type 0 where
  pub one : Includes vs p
  pub all : (r : Pt) → Includes vs r → IsLeftwards p r

-- Of ways that are left of a pivot v, or in its direction, `to` lies no further left than `from`, and no further left
-- than each of the others. The ways that aren't right of `from` aren't right of `to`.
pub record LeansTo (v from to : Pt) (Others : Pt → Type 0) : Type 0 where
  pub leftwards : IsLeftwards v to
  pub before : (s : Pt) → IsLeftwards v s → pos 0 ≤ℤ turn_of from s → pos 0 ≤ℤ turn_of to s
  pub others : (s : Pt) → Others s → pos 0 ≤ℤ turn_of to s
