use Rattle.lanelets.specs.Listing.{AreRows}
use Rattle.lanelets.specs.Steps.{net_of, LeadsTo}
use Rattle.lanelets.proofs.steps.bridged_lanes.Given as goal

abbrev pub invariant-loop-c : goal.invariant-loop-c
invariant-loop-c l = AreRows (λ c e. LeadsTo (net_of l.cells) c e) l.c l.rows.items
