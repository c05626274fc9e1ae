-- How many sets a step has.
use Rattle.std.specs.Prelude.{ℕ, ◌≤◌, List, length, ℤ}
use Rattle.spot_terms.specs.Courses.{Course, box_at}
use Rattle.spot_terms.specs.Grid.{slot, IsRemoved, AreFreeRuns}
use Rattle.spot_terms.specs.RowBoxes.{runs_bound}
use Rattle.spot_terms.specs.Whole.{Within}
use Rattle.spot_terms.specs.declared.plain.Pt.{Pt}

-- over the pieces of step i and the ranges of their y
module _ (course : Course) (i : ℕ) (count : ℕ) (Hits : ℕ → Pt → Type 0) (range : ℕ → ℤ × ℤ) where
  -- these are the free runs of the row, and no more than the columns of the box and the pieces that meet the row
  pub record AreFewRuns (row : ℤ) (runs : List (ℤ × ℤ)) : Type 0 where
    pub free : AreFreeRuns (IsRemoved count Hits course.g row) course.w (slot course.w (box_at course i).xlo) (slot course.w (box_at course i).xhi) runs
    pub few : length runs ≤ runs_bound course.w course.g (box_at course i) count range row

  -- each row of the box has such runs
  abbrev pub HasFewRuns : Type 0
  HasFewRuns = (row : ℤ) → Within (slot course.g (box_at course i).ylo) (slot course.g (box_at course i).yhi) row → (runs : List (ℤ × ℤ)) × AreFewRuns row runs
