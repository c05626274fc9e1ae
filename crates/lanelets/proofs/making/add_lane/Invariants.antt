use Rattle.std.proofs.Common.{drop}
use Rattle.spot_terms.specs.Cells.{cells_from}
use Rattle.lanelets.specs.Made.{IsMadeOf}
use Rattle.lanelets.proofs.Adding.{IsAlong}
use Rattle.lanelets.proofs.making.add_lane.Given as goal

abbrev pub invariant-loop-q : goal.invariant-loop-q
invariant-loop-q l = IsAlong (IsMadeOf l.id) (cells_from l.lane 0 l.raw.left l.raw.right) (cells_from l.lane l.q (drop l.q l.raw.left) (drop l.q l.raw.right)) l.initial.made.items l.made.items
