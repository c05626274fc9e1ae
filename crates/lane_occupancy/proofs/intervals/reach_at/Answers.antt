use Rattle.lane_occupancy.proofs.Starts.{slow_start}
use Rattle.lane_occupancy.proofs.intervals.reach_at.Goals as goal

pub reach_length-requires-clause-speed : goal.reach_length-requires-clause-speed
reach_length-requires-clause-speed c = slow_start c.args.s.now c.args.speed c.requires.start c.requires.speed
