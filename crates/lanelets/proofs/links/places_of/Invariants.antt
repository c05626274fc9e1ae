use Rattle.std.proofs.Common.{take}
use Rattle.lanelets.specs.Links.{ArePlaces}
use Rattle.lanelets.proofs.links.places_of.Given as goal

abbrev pub invariant-loop-id : goal.invariant-loop-id
invariant-loop-id l = ArePlaces l.lanes.entries (take l.id-index l.ids) l.places
