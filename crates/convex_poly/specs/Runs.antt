-- The whole x of two rows that lie in a shape.
use Rattle.std.specs.Prelude.{◌⊎◌, ◌↔◌, ℤ, pos, neg_ℤ, ◌+ℤ◌, ◌*ℤ◌, ◌<ℤ◌, ◌≤ℤ◌, List, [], ◌∷◌, Option, Some, None}
use Rattle.spot_terms.specs.declared.plain.Pt.{Pt}
use Rattle.spot_terms.specs.Hull.{InHull}
use Rattle.spot_terms.specs.Whole.{Within, SizeAtMost}
use Rattle.convex_poly.specs.Turns.{cross}

abbrev pub pt : ℤ → ℤ → Pt
pt x y = record { x = x; y = y }

-- P holds of exactly the whole numbers from the first to the second, both included, and of some
pub record IsSpanOf (P : ℤ → Type 0) (span : ℤ × ℤ) : Type 0 where
  pub ordered : span.0 ≤ℤ span.1
  pub exact : (x : ℤ) → P x ↔ Within span.0 span.1 x

-- the least and the greatest whole number that P holds of, and P of all between; None where P holds of none
abbrev pub IsRun : (ℤ → Type 0) → Option (ℤ × ℤ) → Type 0
IsRun P None = (x : ℤ) → P x → ⊥
IsRun P (Some span) = IsSpanOf P span

-- (x, y0) and (x, y1) lie in the hull
abbrev pub IsInRows : List Pt → ℤ → ℤ → ℤ → Type 0
IsInRows corners y0 y1 x = InHull corners (pt x y0) × InHull corners (pt x y1)

-- (x, y0) and (x, y1) lie left of the edge from a to b, or on it
abbrev pub AreLeft : Pt → Pt → ℤ → ℤ → ℤ → Type 0
AreLeft a b y0 y1 x = (pos 0 ≤ℤ cross a b (pt x y0)) × (pos 0 ≤ℤ cross a b (pt x y1))

-- a span of positions that isn't empty
pub record IsSpan (span : ℤ × ℤ) : Type 0 where
  pub ordered : span.0 ≤ℤ span.1
  pub first : SizeAtMost 40_000_000_000_000 span.0
  pub last : SizeAtMost 40_000_000_000_000 span.1

-- y lies between a and b, whichever of the two is less
abbrev pub IsBetween : ℤ → ℤ → ℤ → Type 0
IsBetween a b y = Within a b y ⊎ Within b a y

-- (x, y0) and (x, y1) lie in the box with the corners a and b
abbrev pub IsBoxed : Pt → Pt → ℤ → ℤ → ℤ → Type 0
IsBoxed a b y0 y1 x = Within a.x b.x x × IsBetween a.y b.y y0 × IsBetween a.y b.y y1

abbrev pub IsPlace : ℤ → Type 0
IsPlace x = Within (neg_ℤ (pos 40_000_000_000_000)) (pos 40_000_000_000_000) x

-- what the edges don't tell: the box of one or two corners
abbrev pub IsStart : List Pt → ℤ → ℤ → ℤ → Type 0
IsStart [] y0 y1 x = IsPlace x
IsStart (a ∷ []) y0 y1 x = IsBoxed a a y0 y1 x
IsStart (a ∷ b ∷ []) y0 y1 x = IsBoxed a b y0 y1 x
IsStart (a ∷ b ∷ c ∷ rest) y0 y1 x = IsPlace x

-- q is room / rise, rounded down
pub record IsQuotient (room rise q : ℤ) : Type 0 where
  pub low : (q *ℤ rise) ≤ℤ room
  pub high : room <ℤ ((q +ℤ pos 1) *ℤ rise)
