use Rattle.lanelets.proofs.WidthLists.{AreNearBelow}
use Rattle.lanelets.proofs.widths.is_too_wide.Given as goal

abbrev pub invariant-loop-k : goal.invariant-loop-k
invariant-loop-k l = AreNearBelow l.lane.left l.lane.right l.k
