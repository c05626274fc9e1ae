use Rattle.std.proofs.Common.{take}
use Rattle.lanelets.specs.Boxes.{AreBoxes}
use Rattle.lanelets.proofs.boxes.boxes_of.Given as goal

abbrev pub invariant-loop-placed : goal.invariant-loop-placed
invariant-loop-placed l = AreBoxes (take l.placed-index l.cells) l.boxes.items
