-- Boxes along the axes round points, and how far points lie beside others.
use Rattle.std.specs.Prelude.{◌≡◌, ◌⊎◌, ℕ, List, ℤ, pos, ◌+ℤ◌, ◌≤ℤ◌}
use Rattle.spot_terms.specs.Lists.{Includes}
use Rattle.spot_terms.specs.Whole.{Within}
use Rattle.spot_terms.specs.declared.plain.Pt.{Pt}
use Rattle.convex_poly.specs.declared.boxes.BoundingBox.{BoundingBox}

-- n is the least value of a coordinate of the points
pub record IsLowest (coordinate : Pt → ℤ) (points : List Pt) (n : ℤ) : Type 0 where
  pub each : (p : Pt) → Includes points p → n ≤ℤ coordinate p
  pub one : (p : Pt) × Includes points p × (coordinate p ≡ n)

-- and the greatest
pub record IsHighest (coordinate : Pt → ℤ) (points : List Pt) (n : ℤ) : Type 0 where
  pub each : (p : Pt) → Includes points p → coordinate p ≤ℤ n
  pub one : (p : Pt) × Includes points p × (coordinate p ≡ n)

-- the least box along the axes that holds the points
pub record IsBoxOf (points : List Pt) (box : BoundingBox) : Type 0 where
  pub left : IsLowest (λ p. p.x) points box.low.x
  pub right : IsHighest (λ p. p.x) points box.high.x
  pub bottom : IsLowest (λ p. p.y) points box.low.y
  pub top : IsHighest (λ p. p.y) points box.high.y

-- both coordinates of p are within those of the box
abbrev pub IsInBox : BoundingBox → Pt → Type 0
IsInBox box p = Within box.low.x box.high.x p.x × Within box.low.y box.high.y p.y

-- a coordinate of each point of a is by at least n above that of each point of b
abbrev pub IsAbove : (Pt → ℤ) → List Pt → List Pt → ℕ → Type 0
IsAbove coordinate a b n = (p q : Pt) → Includes a p → Includes b q → (coordinate q +ℤ pos n) ≤ℤ coordinate p

-- n is 0, or the points of the one lie on one side of those of the other, along an axis, and by at least n
abbrev pub LieBeside : List Pt → List Pt → ℕ → Type 0
LieBeside a b n = (n ≡ 0) ⊎ IsAbove (λ p. p.x) a b n ⊎ IsAbove (λ p. p.x) b a n ⊎ IsAbove (λ p. p.y) a b n ⊎ IsAbove (λ p. p.y) b a n
