use Rattle.std.proofs.Common.{◌≡◌}
use Rattle.lane_occupancy.specs.Reaches.{ends_at}
use Rattle.lane_occupancy.proofs.intervals.interval_ends.Given as goal

abbrev pub invariant-loop-i : goal.invariant-loop-i
invariant-loop-i l = l.ends.items ≡ ends_at l.s l.speed l.k l.i
