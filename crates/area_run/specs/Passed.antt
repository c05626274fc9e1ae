-- The limits of a run, step by step.
use Rattle.std.specs.Prelude.{◌≡◌, ◌⊎◌, ℕ, ℤ, ◌≤◌, sum_by}
use Rattle.spot_terms.specs.declared.limits.TheConstants.{MOST_ROW_BOXES}
use Rattle.spot_terms.specs.Courses.{Course, cells_at}
use Rattle.spot_terms.specs.Lists.{numbers_below}
use Rattle.spot_terms.specs.RowBoxes.{IsAreaTooWide, IsNarrow, IsWithinArea, HasTooManyBoxes, row_boxes}
use Rattle.area_run.specs.declared.fault.AreaFault.{AreaFault}
use Rattle.area_run.specs.declared.fault.AreaFault.TheVariants.{AreaTooWide, TooManyBoxes, Memory}

-- the cells of the steps before step n
abbrev pub cells_before : Course → ℕ → ℕ
cells_before course n = sum_by (cells_at course) (numbers_below n)

-- no step up to n has too many row boxes
abbrev pub HasFewBoxes : Course → (ℕ → ℕ) → (ℕ → ℕ → ℤ × ℤ) → ℕ → Type 0
HasFewBoxes course count range n = (i : ℕ) → i ≤ n → row_boxes course count range i ≤ MOST_ROW_BOXES

-- the limit is passed up to step n: a step is too wide, or none is and one has too many row boxes
abbrev pub IsPassed : Course → (ℕ → ℕ) → (ℕ → ℕ → ℤ × ℤ) → ℕ → AreaFault → Type 0
IsPassed course count range n (AreaTooWide step cells) = IsAreaTooWide course n step cells
IsPassed course count range n (TooManyBoxes step boxes) = IsNarrow course n × HasTooManyBoxes course count range n step boxes
IsPassed course count range n Memory = ⊥

-- why there is no run up to step n: a limit is passed; or none is, and there was no memory
abbrev pub IsRefused : Course → (ℕ → ℕ) → (ℕ → ℕ → ℤ × ℤ) → ℕ → AreaFault → Type 0
IsRefused course count range n fault = IsPassed course count range n fault ⊎ ((fault ≡ Memory) × IsWithinArea course count range n)
