-- The boxes round cells, and those round blocks of these.
use Rattle.std.specs.Prelude.{◌≡◌, ℕ, ◌+◌, ◌*◌, ◌/◌, ◌<◌, ◌≤◌, List, Some, length, slice_get}
use Rattle.spot_terms.specs.Lists.{Pairwise}
use Rattle.spot_terms.specs.declared.plain.Pt.{Pt}
use Rattle.convex_poly.specs.Boxes.{IsBoxOf, IsInBox}
use Rattle.convex_poly.specs.declared.boxes.BoundingBox.{BoundingBox}
use Rattle.lanelets.specs.declared.boxes.CellBoxes.{CellBoxes}
use Rattle.lanelets.specs.declared.boxes.TheConstants.{BLOCK}
use Rattle.lanelets.specs.declared.cell.Placed.{Placed}

-- the box round each cell, in order
abbrev pub AreBoxes : List Placed → List BoundingBox → Type 0
AreBoxes = Pairwise (λ placed. IsBoxOf placed.cell.poly)

-- each point in the one box is in the other
abbrev pub IsBoxIn : BoundingBox → BoundingBox → Type 0
IsBoxIn inner outer = (p : Pt) → IsInBox inner p → IsInBox outer p

-- a box for each block of BLOCK boxes, in order, which has all points in these
pub record AreBlocks (boxes blocks : List BoundingBox) : Type 0 where
  pub all : length boxes ≤ length blocks * BLOCK
  pub needed : length blocks * BLOCK < length boxes + BLOCK
  pub each : (c : ℕ) (box block : BoundingBox) → slice_get boxes c ≡ Some box → slice_get blocks (c / BLOCK) ≡ Some block → IsBoxIn box block

-- the boxes round cells and those round blocks of them
pub record AreCellBoxes (made : List Placed) (boxes : CellBoxes) : Type 0 where
  pub each : AreBoxes made boxes.each.items
  pub blocks : AreBlocks boxes.each.items boxes.blocks.items
