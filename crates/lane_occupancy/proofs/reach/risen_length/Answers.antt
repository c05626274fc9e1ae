use Rattle.lane_occupancy.proofs.ReachLengths.{risen_is}
use Rattle.lane_occupancy.proofs.reach.risen_length.Goals as goal

pub returns : goal.returns
returns c = λ v h. risen_is c.args.speed c.args.a v c.args.ticks h
