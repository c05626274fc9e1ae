-- What a pair of polygons adds to the cells of a box.
use Rattle.std.specs.Prelude.{◌≡◌, ℕ, ◌≤◌, List, length, Some, slice_get, ℤ}
use Rattle.spot_terms.specs.CellNumbers.{IsJoined}
use Rattle.spot_terms.specs.Courses.{cells_of}
use Rattle.spot_terms.specs.Hull.{IsCornerList}
use Rattle.spot_terms.specs.declared.plain.Pt.{Pt}
use Rattle.base_sets.specs.declared.grid.Grid.{Grid}
use Rattle.base_sets.specs.declared.grid.OuterBox.{OuterBox}
use Rattle.base_sets.specs.Values.{rect_of_box}
use Rattle.merge_sets.specs.Cells.{AreSound, OfBoth, numbers_of}
use Rattle.merge_sets.specs.Tables.{IsCellOf, place_of}
use Rattle.merge_sets.specs.declared.cells.Cell.{Cell}

-- the cells of the box with the pair joined; those behind them are as before
pub record AddsTo (o : OuterBox) (grid : Grid) (k : ℕ) (x y : List Pt) (old new : List Cell) : Type 0 where
  pub convex_x : IsCornerList x
  pub convex_y : IsCornerList y
  pub count : length new ≡ length old
  pub inside : (col row : ℤ) (c : Cell) → IsCellOf o grid col row → slice_get old (place_of o grid col row) ≡ Some c
      → (d : Cell) × (slice_get new (place_of o grid col row) ≡ Some d) × IsJoined grid.w grid.g k col row x y (numbers_of c) (numbers_of d)
  pub past : (p : ℕ) → cells_of grid.w grid.g (rect_of_box o) ≤ p → slice_get new p ≡ slice_get old p
  pub sound : (p : ℕ) (c : Cell) → slice_get new p ≡ Some c → OfBoth (AreSound k) (numbers_of c)
