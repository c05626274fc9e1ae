-- How far a lane motion can reach, and the lane polygons of a participant.
use Rattle.std.specs.Prelude.{◌≡◌, ℕ, zero, suc, ◌+◌, ◌*◌, ◌<◌, ◌≤◌, min, List, map, flat_map, Some, slice_get, nat_abs, ◌+ℤ◌, refl}
use Rattle.spot_terms.specs.Bodies.{IsLeast, disc_corners}
use Rattle.spot_terms.specs.Cells.{Lane, NetCell, cells, corners_of}
use Rattle.spot_terms.specs.Hull.{IsHullOf}
use Rattle.spot_terms.specs.Lists.{Includes, Lists}
use Rattle.spot_terms.specs.Routes.{IsLabel}
use Rattle.spot_terms.specs.declared.plain.Pt.{Pt}
use Rattle.spot_terms.specs.declared.plain.AccStart.{AccStart}

-- ---- reach lengths

-- the greatest sum of pieces of the first k ticks: of min(s0 + j·a, v) for j from 1 to k
unfoldable pub reach_length : ℕ → ℕ → ℕ → ℕ → ℕ
reach_length s0 a v zero = 0
reach_length s0 a v (suc k) = reach_length s0 a v k + min (s0 + suc k * a) v

-- the same of a start with this start speed
abbrev pub reach_of : AccStart → ℕ → ℕ → ℕ
reach_of s speed ticks = reach_length speed (nat_abs s.a) (nat_abs s.v) ticks

-- the first interval of k ticks at whose end the reach length is at least the label
abbrev pub IsFirst : AccStart → ℕ → ℕ → ℕ → ℕ → Type 0
IsFirst s speed k label i = IsLeast (λ j. label ≤ reach_of s speed ((j + 1) * k)) i

-- ---- polygons

abbrev pub add_pt : Pt → Pt → Pt
add_pt p q = record { x = p.x +ℤ q.x; y = p.y +ℤ q.y }

-- all sums of a point of the one list and a point of the other
abbrev pub sums : List Pt → List Pt → List Pt
sums ps qs = flat_map (λ p. map (add_pt p) qs) ps

-- the corners of what a body of radius r covers whose centre is in the cell
abbrev pub IsBodyHull : NetCell → ℕ → List Pt → Type 0
IsBodyHull c r corners = IsHullOf (sums (corners_of c) (disc_corners r)) corners

-- the number of a cell, the first interval that it is reached in, and the corners of its polygon
pub record LanePolygon : Type 0 where
  pub cell : ℕ
  pub first : ℕ
  pub corners : List Pt

module _ (lanes : List Lane) (s : AccStart) (speed k steps : ℕ) where
  -- the cell is reached first in interval i
  abbrev pub IsReachedIn : ℕ → ℕ → Type 0
  IsReachedIn c i = (label : ℕ) × IsLabel lanes s.p c label × IsFirst s speed k label i

  -- the cell is reached in an interval below the number of steps
  abbrev pub IsReached : ℕ → Type 0
  IsReached c = (i : ℕ) × IsReachedIn c i × (i < steps)

  pub record IsLanePolygon (x : LanePolygon) : Type 0 where
    pub net_cell : NetCell
    pub cell_is : slice_get (cells lanes) x.cell ≡ Some net_cell
    pub first_is : IsReachedIn x.cell x.first
    pub corners_are : IsBodyHull net_cell s.r x.corners

  -- exactly the polygons of the cells that are reached, by cell number
  pub record AreLanePolygons (polygons : List LanePolygon) : Type 0 where
    pub cells_are : Lists IsReached (map (λ x. x.cell) polygons)
    pub each : (x : LanePolygon) → Includes polygons x → IsLanePolygon x

-- ---- examples: of a car with a start speed of 10.002 m/s, and at the greatest speed

row_two_steps : reach_length 10002 8 70000 200 ≡ 2161200
unfolding reach_length
row_two_steps = refl

row_fastest : reach_length 69996 8 70000 2 ≡ 140000
unfolding reach_length
row_fastest = refl
