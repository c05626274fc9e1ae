-- A step that is ready to be made.
use Rattle.std.specs.Prelude.{◌≡◌, ℕ, ◌+◌, ◌≤◌, ℤ, List, length}
use Rattle.spot_terms.specs.BaseSets.{SetValue}
use Rattle.spot_terms.specs.Courses.{box_at}
use Rattle.spot_terms.specs.Grid.{IsRemoved, AreFreeRuns}
use Rattle.spot_terms.specs.RowBoxes.{row_boxes_in}
use Rattle.spot_terms.specs.declared.plain.Pt.{Pt}
use Rattle.base_sets.specs.Values.{AreBoxPlaces, IsBox, rect_of_box}
use Rattle.base_sets.specs.declared.grid.OuterBox.{OuterBox}
use Rattle.merge_sets.specs.Tables.{Table}
use Rattle.area_laws.specs.CellSets.{AreSetsBefore}
use Rattle.area_laws.specs.Filling.{IsFilledFrom}
use Rattle.area_run.specs.Plans.{IsPlan, course_of}
use Rattle.area_run.specs.Rows.{AreAllRowsIn}
use Rattle.area_run.specs.declared.plan.Plan.{Plan}

-- over the pieces of the step
module _ (plan : Plan) (step : ℕ) (count : ℕ) (Hits : ℕ → Pt → Type 0) (range : ℕ → ℤ × ℤ) where
  -- b is the outer box of the step, and the free runs of its rows are listed
  pub record IsStage (b : OuterBox) (free : List (ℤ × ℤ)) (ends : List (ℕ × ℕ)) : Type 0 where
    pub plan_is : IsPlan plan
    pub exact : rect_of_box b ≡ box_at (course_of plan) step
    pub reach : IsBox b
    pub near : AreBoxPlaces 21_000_000_000_000 b
    pub listed : AreAllRowsIn (course_of plan) step count Hits range free ends

  -- there is room for all boxes of the step
  abbrev pub HasRoom : ℕ → Type 0
  HasRoom room = row_boxes_in plan.grid.w plan.grid.g (box_at (course_of plan) step) count range ≤ room

  -- there is room for a set of each free run of the cell
  abbrev pub HasCellRoom : ℤ → ℤ → List SetValue → ℕ → Type 0
  HasCellRoom col row sets room = (runs : List (ℤ × ℤ)) → AreFreeRuns (IsRemoved count Hits plan.grid.g row) plan.grid.w col col runs → length sets + length runs ≤ room

  -- of whatever the table was filled from: where the sets were those before the first cell, they are those before the second
  abbrev pub Advances : Table → ℤ → ℤ → List SetValue → ℤ → ℤ → List SetValue → Type 0
  Advances t col row old c r new = (before : List SetValue) → IsFilledFrom (course_of plan) step before t
      → AreSetsBefore (course_of plan) step before count Hits col row old → AreSetsBefore (course_of plan) step before count Hits c r new

  -- the table was filled, and the sets are those before the cell
  abbrev pub HasSetsBefore : Table → ℤ → ℤ → List SetValue → Type 0
  HasSetsBefore t col row sets = (before : List SetValue) × IsFilledFrom (course_of plan) step before t
      × AreSetsBefore (course_of plan) step before count Hits col row sets
