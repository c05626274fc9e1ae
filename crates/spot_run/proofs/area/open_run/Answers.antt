use Rattle.base_sets.specs.Values.{course_with}
use Rattle.spot_run.proofs.AreaTells.{boxes_refused}
use Rattle.spot_run.proofs.area.open_run.Goals as goal

pub returns-in-Err-TooManyBoxes-clause-err : goal.returns-in-Err-TooManyBoxes-clause-err
returns-in-Err-TooManyBoxes-clause-err g c =
    boxes_refused (course_with c.args.ego.now.s c.args.ego.now.e c.args.ego.now.grid c.args.scenario.now.step) (g.O.Occupied.count c.args.pieces.now) (g.O.Occupied.range c.args.pieces.now) c.args.steps c.in-Err-TooManyBoxes.step c.in-Err-TooManyBoxes.boxes
    c.in-Err-TooManyBoxes.field-0 c.in-Err-TooManyBoxes.field-0-is c.in-Err-TooManyBoxes.ensures.err
