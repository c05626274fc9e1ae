use Rattle.spot_terms.specs.Cells.{part_cell}
use Rattle.spot_terms.specs.Lists.{numbers_below}
use Rattle.std.proofs.Common.{map}
use Rattle.lanelets.specs.Made.{IsMadeOf, Adds}
use Rattle.lanelets.proofs.making.add_piece.Given as goal

abbrev pub invariant-loop-part : goal.invariant-loop-part
invariant-loop-part l = Adds (IsMadeOf l.place.id) (map (part_cell l.place.lane l.place.piece l.piece.left l.piece.left_end l.piece.right l.piece.right_end l.parts) (numbers_below l.part)) l.initial.made.items l.made.items
