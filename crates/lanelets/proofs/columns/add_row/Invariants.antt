use Rattle.std.proofs.Common.{take}
use Rattle.lanelets.specs.Listing.{HasRow}
use Rattle.lanelets.proofs.columns.add_row.Given as goal

abbrev pub invariant-loop-x : goal.invariant-loop-x
invariant-loop-x l = HasRow l.initial.columns (take l.x-index l.row) l.i l.columns
