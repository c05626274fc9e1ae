-- The values that the structs stand for, and the ranges that calls ask of them.
use Rattle.std.specs.Prelude.{ℕ, ◌≤◌, ℤ, pos, ◌≤ℤ◌, nat_abs}
use Rattle.spot_terms.specs.BaseSets.{Rect, SetValue}
use Rattle.spot_terms.specs.Courses.{Course}
use Rattle.spot_terms.specs.Frames.{at}
use Rattle.spot_terms.specs.Motions.{State}
use Rattle.spot_terms.specs.Ranges.{IsBoxWithin}
use Rattle.spot_terms.specs.Whole.{Within, SizeAtMost}
use Rattle.spot_terms.specs.declared.plain.AccStart.{AccStart}
use Rattle.base_sets.specs.declared.sets.BaseSet.{BaseSet}
use Rattle.base_sets.specs.declared.ego.EgoBounds.{EgoBounds}
use Rattle.base_sets.specs.declared.ego.EgoStart.{EgoStart}
use Rattle.base_sets.specs.declared.grid.Grid.{Grid}
use Rattle.base_sets.specs.declared.grid.OuterBox.{OuterBox}

-- ---- values

abbrev pub value_of : BaseSet → SetValue
value_of b = record { col = b.col; row = b.row; x = b.x; y = b.y }

abbrev pub rect_of_box : OuterBox → Rect
rect_of_box o = record { xlo = o.xlo; xhi = o.xhi; ylo = o.ylo; yhi = o.yhi }

-- the course of a run with steps of k ticks
abbrev pub course_with : EgoStart → EgoBounds → Grid → ℕ → Course
course_with s e grid k = record { p = s.p; b = s.b; a = e.a; v = e.v; w = grid.w; g = grid.g; k = k }

-- the ego's start as that of a participant without a body
abbrev pub start_with : EgoStart → EgoBounds → AccStart
start_with s e = record { p = s.p; b = s.b; a = e.a; v = e.v; r = 0 }

-- the state of position (x, y) and velocity (vx, vy)
abbrev pub state_at : ℤ → ℤ → ℤ → ℤ → State
state_at x vx y vy = record { p = at x y; v = at vx vy }

-- ---- ranges

-- the ego's start: the position at most 2·10^13, and speeds at most 900,000 in size
pub record IsEgoStart (s : EgoStart) : Type 0 where
  pub x : SizeAtMost 20_000_000_000_000 s.p.x
  pub y : SizeAtMost 20_000_000_000_000 s.p.y
  pub box : IsBoxWithin 900_000 s.b

-- the ego's bounds: an acceleration from 1 to 20, and a speed up to 900,000
pub record AreBounds (e : EgoBounds) : Type 0 where
  pub a : Within (pos 1) (pos 20) e.a
  pub v : Within (pos 0) (pos 900_000) e.v

-- columns and rows are from 10 cm to 100 m wide
pub record IsGrid (grid : Grid) : Type 0 where
  pub w : Within (pos 100_000) (pos 100_000_000) grid.w
  pub g : Within (pos 100_000) (pos 100_000_000) grid.g

-- the ticks of a step
abbrev pub AreTicks : ℕ → Type 0
AreTicks k = (1 ≤ k) × (k ≤ 1000)

-- the least places are at most the greatest
pub record IsBoxInOrder (o : OuterBox) : Type 0 where
  pub x : o.xlo ≤ℤ o.xhi
  pub y : o.ylo ≤ℤ o.yhi

-- each place is at most m in size
pub record AreBoxPlaces (m : ℕ) (o : OuterBox) : Type 0 where
  pub xlo : SizeAtMost m o.xlo
  pub xhi : SizeAtMost m o.xhi
  pub ylo : SizeAtMost m o.ylo
  pub yhi : SizeAtMost m o.yhi

-- a box that is handed to calls: in order, with places at most 4·10^13 in size
pub record IsBox (o : OuterBox) : Type 0 where
  pub x : o.xlo ≤ℤ o.xhi
  pub y : o.ylo ≤ℤ o.yhi
  pub xlo : SizeAtMost 40_000_000_000_000 o.xlo
  pub xhi : SizeAtMost 40_000_000_000_000 o.xhi
  pub ylo : SizeAtMost 40_000_000_000_000 o.ylo
  pub yhi : SizeAtMost 40_000_000_000_000 o.yhi

-- two speeds are at most v in size
pub record AreAtMost (v lo hi : ℤ) : Type 0 where
  pub low : SizeAtMost (nat_abs v) lo
  pub high : SizeAtMost (nat_abs v) hi
