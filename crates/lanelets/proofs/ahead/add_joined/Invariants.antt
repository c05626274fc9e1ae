use Rattle.std.proofs.Common.{take}
use Rattle.lanelets.specs.Listing.{Gathers}
use Rattle.lanelets.specs.Steps.{IsJoinedFrom}
use Rattle.lanelets.proofs.ahead.add_joined.Given as goal

abbrev pub invariant-loop-e : goal.invariant-loop-e
invariant-loop-e l = Gathers (IsJoinedFrom l.lanes.entries (take l.e-index l.sources) l.f l.ends) l.initial.row l.row
