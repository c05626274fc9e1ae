-- Cells as the code keeps them, beside those that are defined.
use Rattle.std.specs.Prelude.{◌≡◌, ℕ, List, ◌++◌, Some, slice_get}
use Rattle.std.specs.List.{AllByRecursion}
use Rattle.spot_terms.specs.Cells.{Lane, NetCell, corners_of}
use Rattle.spot_terms.specs.Hull.{IsHullOf}
use Rattle.spot_terms.specs.Lists.{Pairwise}
use Rattle.spot_terms.specs.declared.network.Origin.{Origin}
use Rattle.spot_terms.specs.declared.network.Origin.TheVariants.{Part, Bridge}
use Rattle.lanelets.specs.declared.cell.Cell.{Cell}
use Rattle.lanelets.specs.declared.cell.Placed.{Placed}
use Rattle.lanelets.specs.Pieces.{IsNear}

-- a cell with this lanelet's id, its portals, and their hull, whose corners are at most 10^13 in size
pub record IsCellOf (id : ℕ) (n : NetCell) (c : Cell) : Type 0 where
  pub lane : c.lane ≡ id
  pub entry : c.entry ≡ n.entry
  pub exit : c.exit ≡ n.exit
  pub poly : IsHullOf (corners_of n) c.poly
  pub near : AllByRecursion IsNear c.poly

-- the cell, with where it comes from
pub record IsMadeOf (id : ℕ) (n : NetCell) (p : Placed) : Type 0 where
  pub origin : p.origin ≡ n.origin
  pub cell : IsCellOf id n p.cell

-- the position of the lanelet that a cell is a part of or leads from
abbrev pub source_of : Origin → ℕ
source_of (Part e piece part parts) = e
source_of (Bridge e f) = e

-- the cell, with the id of its lanelet
pub record IsPlaced (lanes : List Lane) (n : NetCell) (p : Placed) : Type 0 where
  pub lane : Lane
  pub lane_is : slice_get lanes (source_of n.origin) ≡ Some lane
  pub made : IsMadeOf lane.0 n p

-- the list goes on with one item for each cell, in its order
pub record Adds (R : NetCell → Placed → Type 0) (net : List NetCell) (before after : List Placed) : Type 0 where
  pub added : List Placed
  pub after_is : after ≡ before ++ added
  pub each : Pairwise R net added
