-- How far the segment between two vectors stays from 0.
use Rattle.std.specs.Prelude.{◌≡◌, ◌⊎◌, ℕ, ◌≤◌, List, ℤ, pos, ◌+ℤ◌, ◌*ℤ◌, ◌≤ℤ◌}
use Rattle.spot_terms.specs.Bodies.{IsGreatest}
use Rattle.spot_terms.specs.Lists.{Includes}
use Rattle.spot_terms.specs.declared.plain.Pt.{Pt}
use Rattle.convex_poly.specs.Vectors.{inner_product}

-- the squared distance of (x, y) from 0
abbrev pub norm : ℤ → ℤ → ℤ
norm x y = (x *ℤ x) +ℤ (y *ℤ y)

-- no point of the segment from u to v has a squared distance from 0 below n
abbrev pub StaysOff : Pt → Pt → ℕ → Type 0
StaysOff u v n =
    (a b : ℤ) → pos 0 ≤ℤ a → pos 0 ≤ℤ b → (pos n *ℤ ((a +ℤ b) *ℤ (a +ℤ b))) ≤ℤ norm ((a *ℤ u.x) +ℤ (b *ℤ v.x)) ((a *ℤ u.y) +ℤ (b *ℤ v.y))

-- the clearance of u and v: the greatest whole number at most the squared distance of 0 from the segment between them
abbrev pub IsClearance : Pt → Pt → ℕ → Type 0
IsClearance u v n = IsGreatest (StaysOff u v) n

-- the squared distance of u from 0 is at least n
abbrev pub ReachesTo : ℕ → Pt → Type 0
ReachesTo n u = pos n ≤ℤ inner_product u u

-- n is the least squared distance of one of the vectors from 0
pub record IsLeastSize (vectors : List Pt) (n : ℕ) : Type 0 where
  pub each : (v : Pt) → Includes vectors v → ReachesTo n v
  pub one : (v : Pt) × Includes vectors v × (pos n ≡ inner_product v v)

-- n is the least of a number and the clearances of u and each of the vectors
pub record IsLesserClearance (least : ℕ) (u : Pt) (vectors : List Pt) (n : ℕ) : Type 0 where
  pub at_most : n ≤ least
  pub all : (v : Pt) → Includes vectors v → StaysOff u v n
  pub one : (n ≡ least) ⊎ ((v : Pt) × Includes vectors v × IsClearance u v n)

-- n is the least clearance of two of the vectors
pub record IsLeastClearance (vectors : List Pt) (n : ℕ) : Type 0 where
  pub all : (u v : Pt) → Includes vectors u → Includes vectors v → StaysOff u v n
  pub one : (u v : Pt) × Includes vectors u × Includes vectors v × IsClearance u v n
