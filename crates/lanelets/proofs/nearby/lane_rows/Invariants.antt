use Rattle.lanelets.specs.Listing.{AreRows}
use Rattle.lanelets.specs.Steps.{net_of, IsOfLane}
use Rattle.lanelets.proofs.nearby.lane_rows.Given as goal

abbrev pub invariant-loop-c : goal.invariant-loop-c
invariant-loop-c l = AreRows (λ c e. IsOfLane (net_of l.cells) c e) l.c l.rows.items
