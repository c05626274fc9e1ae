use Rattle.std.proofs.Common.{take}
use Rattle.lane_paths.specs.Clearances.{IsLesserClearance}
use Rattle.lane_paths.proofs.clearances.lesser_clearance.Given as goal

abbrev pub invariant-loop-v : goal.invariant-loop-v
invariant-loop-v l = IsLesserClearance l.initial.lesser l.u (take l.v-index l.vectors) l.lesser
