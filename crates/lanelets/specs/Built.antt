-- What a network keeps, beside the lanelets that it was built from.
use Rattle.std.specs.Prelude.{◌≡◌, ℕ, ◌≤◌, List, Some, slice_get, length}
use Rattle.spot_terms.specs.declared.limits.TheConstants.{MOST_CELLS}
use Rattle.std.specs.List.{AllByRecursion}
use Rattle.spot_terms.specs.Cells.{Lane, NetCell, cells}
use Rattle.spot_terms.specs.Lists.{Pairwise}
use Rattle.spot_terms.specs.Network.{IsAhead}
use Rattle.lanelets.specs.declared.boxes.CellBoxes.{CellBoxes}
use Rattle.lanelets.specs.declared.cell.Cell.{Cell}
use Rattle.lanelets.specs.declared.cell.Placed.{Placed}
use Rattle.lanelets.specs.declared.classes.Classes.{Classes}
use Rattle.lanelets.specs.declared.kept.KeptLane.{KeptLane}
use Rattle.lanelets.specs.Beside.{AreClasses}
use Rattle.lanelets.specs.Kept.{IsKept}
use Rattle.lanelets.specs.Listing.{AreLists}
use Rattle.lanelets.specs.Steps.{IsInside}
use Rattle.lanelets.specs.Made.{IsCellOf, IsPlaced, source_of}
use Rattle.lanelets.specs.Boxes.{AreCellBoxes}

-- its cells, with the boxes round them, those ahead of each and their classes, and its lanelets
pub record IsBuilt (lanes : List Lane) (made : List Placed) (boxes : CellBoxes) (kept : List KeptLane) (next : List (List ℕ)) (classes : Classes) : Type 0 where
  pub few : length (cells lanes) ≤ MOST_CELLS
  pub placed : Pairwise (IsPlaced lanes) (cells lanes) made
  pub inside : AllByRecursion (λ (p : Placed). IsInside (length lanes) p.origin) made
  pub boxes_are : AreCellBoxes made boxes
  pub kept_is : Pairwise IsKept lanes kept
  pub ahead : AreLists (IsAhead lanes (cells lanes)) (length (cells lanes)) next
  pub beside : AreClasses lanes (cells lanes) classes

-- the cell with this number, with the id of the lanelet that it is a part of or leads from
pub record IsCellAt (lanes : List Lane) (c : ℕ) (cell : Cell) : Type 0 where
  pub net_cell : NetCell
  pub lane : Lane
  pub cell_is : slice_get (cells lanes) c ≡ Some net_cell
  pub lane_is : slice_get lanes (source_of net_cell.origin) ≡ Some lane
  pub cell_of : IsCellOf lane.0 net_cell cell
