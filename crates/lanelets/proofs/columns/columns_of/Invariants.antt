use Rattle.lanelets.proofs.ColumnLists.{AreColumnsBelow}
use Rattle.lanelets.proofs.columns.columns_of.Given as goal

abbrev pub invariant-loop-i : goal.invariant-loop-i
invariant-loop-i l = AreColumnsBelow l.rows l.i l.count l.columns.items
