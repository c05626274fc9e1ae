use Rattle.std.proofs.Common.{arith}
use Rattle.base_sets.specs.Values.{rect_of_box}
use Rattle.area_run.proofs.LimitSteps.{few_next, many, boxes_are}
use Rattle.area_run.specs.Plans.{course_of}
use Rattle.area_run.proofs.limits.too_many_boxes.Goals as goal

pub loop-step-init : goal.loop-step-init
loop-step-init g c = record { few = λ j l. absurd (omega (arith, l)) }

pub returns-then-boxes-gt-MOST_ROW_BOXES-clause-some : goal.returns-then-boxes-gt-MOST_ROW_BOXES-clause-some
returns-then-boxes-gt-MOST_ROW_BOXES-clause-some g c =
    many (course_of c.args.plan.now) (g.O.Occupied.count c.args.o.now) (g.O.Occupied.range c.args.o.now) c.loop-step.step c.args.steps c.row_boxes-boxes.result c.loop-step-test.true c.loop-step.invariant.few
    (boxes_are (course_of c.args.plan.now) (g.O.Occupied.count c.args.o.now) (g.O.Occupied.range c.args.o.now) c.loop-step.step c.row_boxes-boxes.result (rect_of_box c.outer_box.result) c.row_boxes-boxes.ensures c.outer_box.ensures.exact) c.if-boxes-gt-MOST_ROW_BOXES.true

pub loop-step-preserved : goal.loop-step-preserved
loop-step-preserved g c = record {
  few = few_next (course_of c.args.plan.now) (g.O.Occupied.count c.args.o.now) (g.O.Occupied.range c.args.o.now) c.loop-step.step c.row_boxes-boxes.result c.loop-step.invariant.few
      (boxes_are (course_of c.args.plan.now) (g.O.Occupied.count c.args.o.now) (g.O.Occupied.range c.args.o.now) c.loop-step.step c.row_boxes-boxes.result (rect_of_box c.outer_box.result) c.row_boxes-boxes.ensures c.outer_box.ensures.exact) c.if-boxes-gt-MOST_ROW_BOXES.false;
}

pub returns-clause-none : goal.returns-clause-none
returns-clause-none g c = λ e i l. c.loop-step.invariant.few i (omega (arith, l, c.loop-step-test.false))
