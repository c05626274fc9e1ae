use Rattle.spot_terms.specs.Limits.{AreNarrowBelow}
use Rattle.lanelets.proofs.widths.first_wide.Given as goal

abbrev pub invariant-loop-e : goal.invariant-loop-e
invariant-loop-e l = AreNarrowBelow l.lanes.entries l.e
