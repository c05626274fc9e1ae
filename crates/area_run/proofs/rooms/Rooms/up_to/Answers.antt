use Rattle.std.proofs.Common.{arith}
use Rattle.area_run.specs.Plans.{course_of}
use Rattle.area_run.proofs.Growing.{room_first, room_next}
use Rattle.area_run.proofs.rooms.Rooms.up_to.Goals as goal

pub loop-step-init : goal.loop-step-init
loop-step-init g c = record {
  greatest = room_first (course_of c.args.plan.now) (g.O.Occupied.count c.args.o.now) (g.O.Occupied.range c.args.o.now) c.of_step-rooms.result c.of_step-rooms.ensures;
  within = omega arith;
}

pub loop-step-preserved : goal.loop-step-preserved
loop-step-preserved g c = record {
  greatest = room_next (course_of c.args.plan.now) (g.O.Occupied.count c.args.o.now) (g.O.Occupied.range c.args.o.now) c.loop-step.step c.loop-step.rooms c.of_step.result c.max-rooms.result c.loop-step.invariant.greatest c.of_step.ensures
      c.max-rooms.ensures.cells c.max-rooms.ensures.runs c.max-rooms.ensures.rows c.max-rooms.ensures.boxes;
  within = omega (arith, c.loop-step-test.true);
}
