use Rattle.std.proofs.Common.{◌≤◌, ◌<◌, ℕ}
use Rattle.spot_terms.specs.RowBoxes.{row_boxes}
use Rattle.area_run.specs.Plans.{course_of}
use Rattle.area_run.proofs.limits.too_many_boxes.Given as goal

-- no step so far has too many
abbrev pub invariant-loop-step : goal.invariant-loop-step
invariant-loop-step g l = record {
  few : (j : ℕ) → j < l.step → row_boxes (course_of l.plan) (g.O.Occupied.count l.o) (g.O.Occupied.range l.o) j ≤ 1_048_576;
}
