use Rattle.lanelets.proofs.BoxLists.{BlocksSoFar}
use Rattle.lanelets.proofs.boxes.blocks_of.Given as goal

abbrev pub invariant-loop-c : goal.invariant-loop-c
invariant-loop-c l = BlocksSoFar l.boxes l.c l.blocks.items
