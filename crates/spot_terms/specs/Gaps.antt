-- The gap of two convex sets, each by its corners.
use Rattle.std.specs.Prelude.{◌≡◌, ◌⊎◌, ℕ, ◌+◌, ◌*◌, ◌<◌, ◌≤◌, List, pos, nat_abs, ◌-ℤ◌, ◌*ℤ◌}
use Rattle.spot_terms.specs.Bodies.{IsGreatest}
use Rattle.spot_terms.specs.Hull.{FractionPt, InHullAt}
use Rattle.spot_terms.specs.Lists.{Includes}
use Rattle.spot_terms.specs.Whole.{square}
use Rattle.spot_terms.specs.declared.plain.Pt.{Pt}

-- the whole number w is at most the distance of two fraction points
abbrev pub IsWithinDistance : ℕ → FractionPt → FractionPt → Type 0
IsWithinDistance w p q = (w * p.d * q.d) * (w * p.d * q.d) ≤ square (q.x *ℤ pos p.d -ℤ p.x *ℤ pos q.d) + square (q.y *ℤ pos p.d -ℤ p.y *ℤ pos q.d)

-- no two points of the sets are nearer than w
abbrev pub KeepsApart : List Pt → List Pt → ℕ → Type 0
KeepsApart a b w = (p q : FractionPt) → 1 ≤ p.d → 1 ≤ q.d → InHullAt a p → InHullAt b q → IsWithinDistance w p q

-- the two differ by more than 10^9 in a coordinate
abbrev pub IsFarFrom : Pt → Pt → Type 0
IsFarFrom p q = (1_000_000_000 < nat_abs (p.x -ℤ q.x)) ⊎ (1_000_000_000 < nat_abs (p.y -ℤ q.y))

-- a corner of the one is far from a corner of the other
abbrev pub AreFar : List Pt → List Pt → Type 0
AreFar a b = (p q : Pt) × Includes a p × Includes b q × IsFarFrom p q

-- w is the greatest whole number at most the distance of each two points, or 0 where corners are far from each other
abbrev pub IsGap : List Pt → List Pt → ℕ → Type 0
IsGap a b w = (AreFar a b × (w ≡ 0)) ⊎ ((AreFar a b → ⊥) × IsGreatest (KeepsApart a b) w)
