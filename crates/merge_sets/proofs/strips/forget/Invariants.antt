use Rattle.merge_sets.specs.Strips.{IsForgotten}
use Rattle.merge_sets.proofs.strips.forget.Given as goal

abbrev pub invariant-loop-j : goal.invariant-loop-j
invariant-loop-j l = IsForgotten l.fn.from l.j l.initial.rows l.rows
