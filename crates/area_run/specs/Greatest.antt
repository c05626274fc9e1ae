-- The room that a run needs: the greatest of all its steps.
use Rattle.std.specs.Prelude.{◌≡◌, ℕ, ◌+◌, ◌<◌, ◌≤◌, ℤ}
use Rattle.spot_terms.specs.Courses.{Course, box_at, cells_at, slots_met}
use Rattle.spot_terms.specs.RowBoxes.{row_boxes}
use Rattle.area_run.specs.declared.rooms.Rooms.{Rooms}

-- the greatest of f 0 to f (n - 1)
pub record IsGreatestBelow (n : ℕ) (f : ℕ → ℕ) (most : ℕ) : Type 0 where
  pub bound : (i : ℕ) → i < n → f i ≤ most
  pub reached : (i : ℕ) × (i < n) × (f i ≡ most)

-- the rows of the box of a step
abbrev pub rows_at : Course → ℕ → ℕ
rows_at course i = slots_met course.g (box_at course i).ylo (box_at course i).yhi

-- as many runs as a row of a step can have: the columns of its box, and its pieces
abbrev pub row_runs_at : Course → (ℕ → ℕ) → ℕ → ℕ
row_runs_at course count i = slots_met course.w (box_at course i).xlo (box_at course i).xhi + count i

module _ (course : Course) (count : ℕ → ℕ) (range : ℕ → ℕ → ℤ × ℤ) where
  -- what step i needs
  pub record IsRoomOf (i : ℕ) (r : Rooms) : Type 0 where
    pub cells : r.cells ≡ cells_at course i
    pub runs : r.runs ≡ row_runs_at course count i
    pub rows : r.rows ≡ rows_at course i
    pub boxes : r.boxes ≡ row_boxes course count range i

  -- the greatest that any of the first n steps needs
  pub record IsRoomBelow (n : ℕ) (r : Rooms) : Type 0 where
    pub cells : IsGreatestBelow n (cells_at course) r.cells
    pub runs : IsGreatestBelow n (row_runs_at course count) r.runs
    pub rows : IsGreatestBelow n (rows_at course) r.rows
    pub boxes : IsGreatestBelow n (row_boxes course count range) r.boxes
