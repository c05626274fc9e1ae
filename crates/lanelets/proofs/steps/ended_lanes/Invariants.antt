use Rattle.lanelets.specs.Listing.{AreRows}
use Rattle.lanelets.specs.Steps.{net_of}
use Rattle.spot_terms.specs.Network.{EndsLane}
use Rattle.lanelets.proofs.steps.ended_lanes.Given as goal

abbrev pub invariant-loop-c : goal.invariant-loop-c
invariant-loop-c l = AreRows (λ c e. EndsLane (net_of l.cells) c e) l.c l.rows.items
