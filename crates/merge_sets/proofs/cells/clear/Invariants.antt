use Rattle.merge_sets.specs.Cells.{IsCleared}
use Rattle.merge_sets.proofs.cells.clear.Given as goal

abbrev pub invariant-loop-i : goal.invariant-loop-i
invariant-loop-i l = IsCleared l.i l.initial.cells l.cells
