-- What is left of a polygon on one side of a line along an axis.
use Rattle.std.specs.Prelude.{◌≤ℤ◌, ◌<ℤ◌, ℤ, pos, ◌-ℤ◌, ◌+ℤ◌, ◌*ℤ◌, List, [], ◌∷◌, ◌++◌, map, flat_map, int_le, int_lt, ◌&&◌, if◌then◌else◌, Option, Some, None}
use Rattle.std.specs.List.{AllByRecursion}
use Rattle.spot_terms.specs.declared.plain.Pt.{Pt}
use Rattle.spot_terms.specs.Hull.{edges, IsHullOf}
use Rattle.spot_terms.specs.Lists.{Includes}
use Rattle.spot_terms.specs.Whole.{quotient_floor, quotient_ceiling}

-- ---- clips to x ≤ c

-- the y at x = c of the line from a to b, a.x < b.x, rounded down, and rounded up
abbrev pub height_below : ℤ → Pt → Pt → ℤ
height_below c a b = a.y +ℤ quotient_floor ((b.y -ℤ a.y) *ℤ (c -ℤ a.x)) (b.x -ℤ a.x)

abbrev pub height_above : ℤ → Pt → Pt → ℤ
height_above c a b = a.y +ℤ quotient_ceiling ((b.y -ℤ a.y) *ℤ (c -ℤ a.x)) (b.x -ℤ a.x)

-- where that line crosses x = c: the whole points next to the crossing
abbrev pub beside : ℤ → Pt → Pt → List Pt
beside c a b = record { x = c; y = height_below c a b } ∷ record { x = c; y = height_above c a b } ∷ []

-- the points beside the crossing of an edge that leads from one side of x = c to the other
abbrev pub crossing : ℤ → Pt × Pt → List Pt
crossing c e = if int_lt e.0.x c && int_lt c e.1.x then beside c e.0 e.1 else if int_lt e.1.x c && int_lt c e.0.x then beside c e.1 e.0 else []

-- an edge's start, where it is on the side, and the points beside its crossing
abbrev pub clipped_edge : ℤ → Pt × Pt → List Pt
clipped_edge c e = (if int_le e.0.x c then e.0 ∷ [] else []) ++ crossing c e

-- the points whose hull is the polygon clipped to x ≤ c
abbrev pub clip_points : ℤ → List Pt → List Pt
clip_points c corners = flat_map (clipped_edge c) (edges corners)

-- ---- the four sides

-- A side is x ≤ c after a reflection, which undoes itself.
abbrev pub Reflection : Type 0
Reflection = Pt → Pt

-- for x ≤ c
abbrev pub as_it_is : Reflection
as_it_is p = p

-- for -x ≤ c
abbrev pub x_turned : Reflection
x_turned p = record { x = pos 0 -ℤ p.x; y = p.y }

-- for y ≤ c
abbrev pub swapped : Reflection
swapped p = record { x = p.y; y = p.x }

-- for -y ≤ c
abbrev pub turned_and_swapped : Reflection
turned_and_swapped p = record { x = pos 0 -ℤ p.y; y = pos 0 -ℤ p.x }

-- The clip of a polygon to a side: the hull of its points, and nothing exactly where no corner is on the side.
abbrev pub IsClip : Reflection → ℤ → List Pt → Option (List Pt) → Type 0
IsClip reflected c corners None = AllByRecursion (λ v. c <ℤ (reflected v).x) corners
IsClip reflected c corners (Some clipped) = ((v : Pt) × Includes corners v × ((reflected v).x ≤ℤ c)) × IsHullOf (map reflected (clip_points c (map reflected corners))) clipped
