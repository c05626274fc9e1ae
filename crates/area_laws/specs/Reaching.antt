-- How far the sets of a step reach.
use Rattle.std.specs.Prelude.{ℕ, ◌≤◌, ℤ, List, length}
use Rattle.std.specs.List.{AllByRecursion}
use Rattle.spot_terms.specs.BaseSets.{SetValue}
use Rattle.spot_terms.specs.Courses.{Course, box_at}
use Rattle.spot_terms.specs.Grid.{slot}
use Rattle.spot_terms.specs.Lists.{Includes}
use Rattle.spot_terms.specs.Whole.{Within}
use Rattle.propagate.specs.Children.{IsInPlane, IsStepPoint}

-- all corners of the set are in the outer box of step i, and no faster than the ego may be
pub record IsSetInBox (course : Course) (i : ℕ) (b : SetValue) : Type 0 where
  pub x : AllByRecursion (IsInPlane (box_at course i).xlo (box_at course i).xhi course.v) b.x
  pub y : AllByRecursion (IsInPlane (box_at course i).ylo (box_at course i).yhi course.v) b.y

-- all sets are so
abbrev pub AreSetsInBox : Course → ℕ → List SetValue → Type 0
AreSetsInBox course i sets = (b : SetValue) → Includes sets b → IsSetInBox course i b

-- a step can be made from both polygons of the set
pub record IsStepSet (b : SetValue) : Type 0 where
  pub x : AllByRecursion IsStepPoint b.x
  pub y : AllByRecursion IsStepPoint b.y

-- a set's polygons have few corners
pub record HasFewCorners (b : SetValue) : Type 0 where
  pub x : length b.x ≤ 14
  pub y : length b.y ≤ 12

-- the cell meets the outer box of step i
pub record IsCellIn (course : Course) (i : ℕ) (col row : ℤ) : Type 0 where
  pub col_in : Within (slot course.w (box_at course i).xlo) (slot course.w (box_at course i).xhi) col
  pub row_in : Within (slot course.g (box_at course i).ylo) (slot course.g (box_at course i).yhi) row
