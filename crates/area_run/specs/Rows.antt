-- The free runs of the rows of a step's box.
use Rattle.std.specs.Prelude.{◌≡◌, ℕ, ◌-◌, ◌<◌, ◌≤◌, ℤ, pos, ◌+ℤ◌, List, length, take, drop, Some, slice_get}
use Rattle.spot_terms.specs.Courses.{Course, box_at, slots_met}
use Rattle.spot_terms.specs.Grid.{slot, IsRemoved, AreFreeRuns, CoverTheRest}
use Rattle.spot_terms.specs.RowBoxes.{runs_bound}
use Rattle.spot_terms.specs.declared.plain.Pt.{Pt}
use Rattle.carve.specs.RowSums.{sum_rows}

-- over the pieces of step i
module _ (course : Course) (i : ℕ) (count : ℕ) (Hits : ℕ → Pt → Type 0) (range : ℕ → ℤ × ℤ) where
  -- exactly the free runs of the row in all columns of the box, and no more than columns and pieces that meet the row
  pub record AreRunsOf (row : ℤ) (runs : List (ℤ × ℤ)) : Type 0 where
    pub free : AreFreeRuns (IsRemoved count Hits course.g row) course.w (slot course.w (box_at course i).xlo) (slot course.w (box_at course i).xhi) runs
    pub covers : CoverTheRest (IsRemoved count Hits course.g row) course.w (slot course.w (box_at course i).xlo) (slot course.w (box_at course i).xhi) runs
    pub few : length runs ≤ runs_bound course.w course.g (box_at course i) count range row

  -- the first n rows of the box have theirs in a list, one row behind the other; of each row it is known from where to where
  pub record AreRowsIn (free : List (ℤ × ℤ)) (ends : List (ℕ × ℕ)) (n : ℕ) : Type 0 where
    pub counted : length ends ≡ n
    pub each : (j : ℕ) → j < n → (from to : ℕ) × (slice_get ends j ≡ Some (from, to)) × (from ≤ to) × (to ≤ length free)
        × AreRunsOf (slot course.g (box_at course i).ylo +ℤ pos j) (take (to - from) (drop from free))
    pub few : length free ≤ sum_rows (runs_bound course.w course.g (box_at course i) count range) (slot course.g (box_at course i).ylo) n

  -- all rows of the box
  abbrev pub AreAllRowsIn : List (ℤ × ℤ) → List (ℕ × ℕ) → Type 0
  AreAllRowsIn free ends = AreRowsIn free ends (slots_met course.g (box_at course i).ylo (box_at course i).yhi)
