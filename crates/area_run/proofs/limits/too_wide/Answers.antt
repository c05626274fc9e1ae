use Rattle.std.proofs.Common.{◌≡◌, ◌+◌, arith}
use Rattle.spot_terms.specs.Courses.{cells_at}
use Rattle.base_sets.specs.Values.{rect_of_box}
use Rattle.area_run.proofs.LimitSteps.{no_cells_yet, cells_next, narrow_next, sum_wide, cells_are}
use Rattle.area_run.specs.Plans.{course_of}
use Rattle.area_run.proofs.limits.too_wide.Goals as goal

pub loop-step-init : goal.loop-step-init
loop-step-init c = record { total = no_cells_yet (course_of c.args.plan.now); few = omega arith; narrow = λ j count l w. absurd (omega (arith, l)) }

pub returns-then-total-gt-MOST_GRID_CELLS-clause-some : goal.returns-then-total-gt-MOST_GRID_CELLS-clause-some
returns-then-total-gt-MOST_GRID_CELLS-clause-some c =
    let here : c.cells-here.result ≡ cells_at (course_of c.args.plan.now) c.loop-step.step = cells_are (course_of c.args.plan.now) c.loop-step.step c.cells-here.result (rect_of_box c.outer_box.result) c.cells-here.ensures.value c.outer_box.ensures.exact in
    sum_wide (course_of c.args.plan.now) c.loop-step.step c.args.steps c.loop-step.total c.cells-here.result (c.loop-step.total + c.cells-here.result) c.loop-step-test.true c.loop-step.invariant.narrow c.if-here-gt-MOST_STEP_CELLS.false here
    (cells_next (course_of c.args.plan.now) c.loop-step.step c.loop-step.total (c.loop-step.total + c.cells-here.result) c.loop-step.invariant.total (omega (arith, here))) c.if-total-gt-MOST_GRID_CELLS.true

pub loop-step-preserved : goal.loop-step-preserved
loop-step-preserved c =
    let here : c.cells-here.result ≡ cells_at (course_of c.args.plan.now) c.loop-step.step = cells_are (course_of c.args.plan.now) c.loop-step.step c.cells-here.result (rect_of_box c.outer_box.result) c.cells-here.ensures.value c.outer_box.ensures.exact in
    let total = cells_next (course_of c.args.plan.now) c.loop-step.step c.loop-step.total (c.loop-step.total + c.cells-here.result) c.loop-step.invariant.total (omega (arith, here)) in
    record {
      total = total;
      few = c.if-total-gt-MOST_GRID_CELLS.false;
      narrow = narrow_next (course_of c.args.plan.now) c.loop-step.step c.loop-step.invariant.narrow (omega (arith, here, c.if-here-gt-MOST_STEP_CELLS.false)) (omega (arith, total, c.if-total-gt-MOST_GRID_CELLS.false));
    }

pub returns-clause-none : goal.returns-clause-none
returns-clause-none c = λ e i count l w. c.loop-step.invariant.narrow i count (omega (arith, l, c.loop-step-test.false)) w
