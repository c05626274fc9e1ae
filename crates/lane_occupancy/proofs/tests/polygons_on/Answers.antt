use Rattle.std.proofs.Common.{◌*◌}
use Rattle.lane_occupancy.proofs.StartLabels.{labels_up_to}
use Rattle.lane_occupancy.proofs.Starts.{slow_start}
use Rattle.lane_occupancy.proofs.tests.polygons_on.Goals as goal

pub reach_length-limit-requires-clause-speed : goal.reach_length-limit-requires-clause-speed
reach_length-limit-requires-clause-speed c = slow_start c.args.s.now c.start_speed-speed.result c.requires.start c.start_speed-speed.ensures.least

pub reached_cells-requires-clause-labels : goal.reached_cells-requires-clause-labels
reached_cells-requires-clause-labels c =
    labels_up_to c.in-Ok.net c.args.s.now c.start_speed-speed.result c.unsigned_abs.result c.unsigned_abs-2.result (c.args.steps * 100) c.reach_length-limit.result c.in_ok-table.table
    c.requires.start c.start_speed-speed.ensures.least c.unsigned_abs.ensures.value c.unsigned_abs-2.ensures.value c.reach_length-limit.ensures.value c.in_ok-table.ensures

pub lane_polys-requires-clause-labels : goal.lane_polys-requires-clause-labels
lane_polys-requires-clause-labels c =
    labels_up_to c.in-Ok.net c.args.s.now c.start_speed-speed.result c.unsigned_abs.result c.unsigned_abs-2.result (c.args.steps * 100) c.reach_length-limit.result c.in_ok-table.table
    c.requires.start c.start_speed-speed.ensures.least c.unsigned_abs.ensures.value c.unsigned_abs-2.ensures.value c.reach_length-limit.ensures.value c.in_ok-table.ensures
