-- Polygons of the numbers of one plane.
use Rattle.std.specs.Prelude.{◌≡◌, ℕ, ◌≤◌, ℤ, pos, List, length, Some, None, Bool, true, false, slice_get}
use Rattle.spot_terms.specs.Frames.{InFrame}
use Rattle.spot_terms.specs.Hull.{InHull}
use Rattle.spot_terms.specs.StepLists.{IsFrameOf}
use Rattle.spot_terms.specs.declared.plain.Pt.{Pt}
use Rattle.base_sets.specs.declared.grid.Grid.{Grid}
use Rattle.base_sets.specs.declared.grid.OuterBox.{OuterBox}
use Rattle.merge_sets.specs.Tables.{IsMergedIn, Table}
use Rattle.merge_sets.specs.declared.planes.Plane.{Plane}

-- the frame of the numbers for k ticks, which holds all points within them
pub record IsPlaneOf (k : ℕ) (numbers : List ℤ) (corners : List Pt) : Type 0 where
  pub frame : IsFrameOf k numbers corners
  pub holds : (q : Pt) → InFrame (pos k) numbers q → InHull corners q
  pub few : length corners ≤ 12

-- the polygon of a plane is the frame of its numbers
abbrev pub IsPlane : ℕ → Plane → Type 0
IsPlane k p = IsPlaneOf k p.numbers.n p.poly

-- each is
abbrev pub ArePlanes : ℕ → List Plane → Type 0
ArePlanes k planes = (j : ℕ) (p : Plane) → slice_get planes j ≡ Some p → IsPlane k p

abbrev pub corners_of : Plane → List Pt
corners_of p = p.poly

-- the ticks of a step, the polygon of x, and the polygons of y, of which there are so many
pub record PlaneValue : Type 0 where
  pub k : ℕ
  pub rows : ℕ
  pub x : List Pt
  pub ys : List (List Pt)

-- a step of k ticks was begun
abbrev pub HasTicks : Table → ℕ → Type 0
HasTicks t k = (o : OuterBox) × (grid : Grid) × (t.step ≡ Some (o, grid, k))

-- what a table says of a cell: where something came in, the polygon of x and that of y of row j are those of its set, and else
-- there is none
abbrev pub AreMergedIn : Table → ℤ → ℤ → ℕ → Bool → PlaneValue → Type 0
AreMergedIn t col row j true p = (y : List Pt) × (slice_get p.ys j ≡ Some y) × IsMergedIn t col row (Some (record { col = col; row = row; x = p.x; y = y }))
AreMergedIn t col row j false p = IsMergedIn t col row None
