-- The lane polygons of a start, as the code keeps them.
use Rattle.std.specs.Prelude.{ℕ, ◌*◌, ◌≡◌, List, Option, length}
use Rattle.spot_terms.specs.Cells.{Lane}
use Rattle.spot_terms.specs.LanePolygons.{LanePolygon, IsReached, reach_of}
use Rattle.spot_terms.specs.Lists.{Lists}
use Rattle.spot_terms.specs.Motions.{IsStartSpeed}
use Rattle.spot_terms.specs.declared.plain.AccStart.{AccStart}
use Rattle.lane_paths.specs.Labels.{AreLabels}
use Rattle.lane_occupancy.specs.declared.polygons.LanePoly.{LanePoly}

abbrev pub polygon_of : LanePoly → LanePolygon
polygon_of x = record { cell = x.cell; first = x.first; corners = x.poly }

-- the labels from the start's position, up to the reach length at the end of the last interval
abbrev pub AreLabelsOf : List Lane → AccStart → ℕ → ℕ → List (Option ℕ) → Type 0
AreLabelsOf lanes s k steps labels = (speed : ℕ) → IsStartSpeed s.b speed → AreLabels lanes s.p (reach_of s speed (steps * k)) labels

-- the number of cells that are reached in the intervals below `steps`
abbrev pub HasCount : List Lane → AccStart → ℕ → ℕ → ℕ → Type 0
HasCount lanes s k steps n = (speed : ℕ) → IsStartSpeed s.b speed → (reached : List ℕ) × Lists (IsReached lanes s speed k steps) reached × (n ≡ length reached)
