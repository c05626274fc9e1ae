-- How many free runs the rows of a step can have, all together.
use Rattle.std.specs.Prelude.{◌≡◌, ℕ, zero, suc, ◌+◌, ℤ, pos, ◌+ℤ◌, ◌≤ℤ◌, ◌<ℤ◌}
use Rattle.spot_terms.specs.BaseSets.{Rect}
use Rattle.spot_terms.specs.Courses.{slots_met}
use Rattle.spot_terms.specs.Grid.{slot}
use Rattle.spot_terms.specs.RowBoxes.{row_boxes_in, runs_bound}

-- the sum over so many rows, from a first one on
abbrev pub sum_rows : (ℤ → ℕ) → ℤ → ℕ → ℕ
sum_rows f first zero = 0
sum_rows f first (suc n) = f first + sum_rows f (first +ℤ pos 1) n

-- all rows of the box together: its row boxes
abbrev pub RowsAreBoxes : Type 0
RowsAreBoxes = (w g : ℤ) (o : Rect) (count : ℕ) (range : ℕ → ℤ × ℤ) → pos 0 <ℤ g → o.ylo ≤ℤ o.yhi
    → sum_rows (runs_bound w g o count range) (slot g o.ylo) (slots_met g o.ylo o.yhi) ≡ row_boxes_in w g o count range
