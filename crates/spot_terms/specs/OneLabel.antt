-- There is one label, one first interval, one list of lane polygons and one start.
use Rattle.std.specs.Prelude.{◌≡◌, ℕ, List}
use Rattle.spot_terms.specs.Cells.{Lane}
use Rattle.spot_terms.specs.LanePolygons.{LanePolygon, IsFirst, IsReachedIn, AreLanePolygons}
use Rattle.spot_terms.specs.OccupiedPieces.{Occupant, IsOccupant}
use Rattle.spot_terms.specs.Participants.{IsStartOf}
use Rattle.spot_terms.specs.Routes.{IsLabel}
use Rattle.spot_terms.specs.declared.plain.AccStart.{AccStart}
use Rattle.spot_terms.specs.declared.plain.Pt.{Pt}
use Rattle.spot_terms.specs.declared.scenario.Mover.{Mover}

pub record LabelsAreOne : Type 0 where
  -- a cell has one label at most
  pub label : (lanes : List Lane) (p : Pt) (d m n : ℕ) → IsLabel lanes p d m → IsLabel lanes p d n → m ≡ n
  -- a label has one first interval at most
  pub first : (s : AccStart) (speed k label i j : ℕ) → IsFirst s speed k label i → IsFirst s speed k label j → i ≡ j
  -- and so has a cell, with it its lane polygon
  pub reached : (lanes : List Lane) (s : AccStart) (speed k steps c i j : ℕ) → IsReachedIn lanes s speed k steps c i → IsReachedIn lanes s speed k steps c j → i ≡ j
  -- a participant has one list of lane polygons
  pub polygons : (lanes : List Lane) (s : AccStart) (speed k steps : ℕ) (xs ys : List LanePolygon)
      → AreLanePolygons lanes s speed k steps xs → AreLanePolygons lanes s speed k steps ys → xs ≡ ys
  -- an obstacle has one start and one start speed
  pub start : (m : Mover) (s t : AccStart) (speed other : ℕ) → IsStartOf m s speed → IsStartOf m t other → (s ≡ t) × (speed ≡ other)
  -- and is one participant
  pub occupant : (lanes : List Lane) (k steps : ℕ) (m : Mover) (o p : Occupant) → IsOccupant lanes k steps m o → IsOccupant lanes k steps m p → o ≡ p
