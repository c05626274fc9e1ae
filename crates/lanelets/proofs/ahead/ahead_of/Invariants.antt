use Rattle.spot_terms.specs.Network.{IsAhead}
use Rattle.lanelets.specs.Listing.{AreRows}
use Rattle.lanelets.specs.Steps.{net_of}
use Rattle.lanelets.proofs.ahead.ahead_of.Given as goal

abbrev pub invariant-loop-d : goal.invariant-loop-d
invariant-loop-d l = AreRows (λ d c. IsAhead l.lanes.entries (net_of l.cells) c d) l.d l.rows.items
