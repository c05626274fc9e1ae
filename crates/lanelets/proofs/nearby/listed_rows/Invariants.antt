use Rattle.lanelets.specs.Listing.{AreRows}
use Rattle.lanelets.specs.Nearby.{AreListed}
use Rattle.lanelets.proofs.nearby.listed_rows.Given as goal

abbrev pub invariant-loop-f : goal.invariant-loop-f
invariant-loop-f l = AreRows (λ f e. AreListed l.lanes.entries e f) l.f l.rows.items
