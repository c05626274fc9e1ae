use Rattle.lane_paths.proofs.ReachedLists.{AreLeft}
use Rattle.lane_paths.proofs.lengths.forget.Given as goal

abbrev pub invariant-loop-number : goal.invariant-loop-number
invariant-loop-number l = AreLeft l.lengths.items l.reached l.number-index
