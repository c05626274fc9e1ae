use Rattle.std.proofs.Common.{◌≡◌, ◌≤◌, ◌<◌, ℕ}
use Rattle.spot_terms.specs.RowBoxes.{IsTooWideAt}
use Rattle.area_run.specs.Passed.{cells_before}
use Rattle.area_run.specs.Plans.{course_of}
use Rattle.area_run.proofs.limits.too_wide.Given as goal

-- the cells of the steps so far, none of which is too wide
abbrev pub invariant-loop-step : goal.invariant-loop-step
invariant-loop-step l = record {
  total : l.total ≡ cells_before (course_of l.plan) l.step;
  few : l.total ≤ 524_288;
  narrow : (j count : ℕ) → j < l.step → IsTooWideAt (course_of l.plan) j count → ⊥;
}
