-- The columns and rows of a box, and where their cells stand.
use Rattle.std.specs.Prelude.{◌≡◌, ℕ, ◌+◌, ◌*◌, ◌≤◌, nat_abs, ℤ, ◌-ℤ◌}
use Rattle.spot_terms.specs.Courses.{slots_met}
use Rattle.spot_terms.specs.Grid.{slot}
use Rattle.spot_terms.specs.Whole.{Within, SizeAtMost, count_between}
use Rattle.base_sets.specs.declared.grid.Grid.{Grid}
use Rattle.base_sets.specs.declared.grid.OuterBox.{OuterBox}
use Rattle.merge_sets.specs.declared.places.BoxSlots.{BoxSlots}

-- those that meet a box
pub record AreSlotsOf (o : OuterBox) (grid : Grid) (s : BoxSlots) : Type 0 where
  pub first_col : s.first_col ≡ slot grid.w o.xlo
  pub last_col : s.last_col ≡ slot grid.w o.xhi
  pub first_row : s.first_row ≡ slot grid.g o.ylo
  pub last_row : s.last_row ≡ slot grid.g o.yhi
  pub rows : s.rows ≡ slots_met grid.g o.ylo o.yhi

-- no further off than places go
pub record AreNear (s : BoxSlots) : Type 0 where
  pub first_col : SizeAtMost 400_000_000 s.first_col
  pub last_col : SizeAtMost 400_000_000 s.last_col
  pub first_row : SizeAtMost 400_000_000 s.first_row
  pub last_row : SizeAtMost 400_000_000 s.last_row
  pub rows : s.rows ≤ 1_000_000_000

-- the cell is one of these columns and rows
abbrev pub HasCell : BoxSlots → ℤ → ℤ → Type 0
HasCell s col row = Within s.first_col s.last_col col × Within s.first_row s.last_row row

-- where it stands
abbrev pub place_in : BoxSlots → ℤ → ℤ → ℕ
place_in s col row = nat_abs (col -ℤ s.first_col) * s.rows + nat_abs (row -ℤ s.first_row)
