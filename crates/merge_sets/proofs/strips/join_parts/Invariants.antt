use Rattle.merge_sets.specs.Strips.{JoinsParts}
use Rattle.merge_sets.proofs.strips.join_parts.Given as goal

abbrev pub invariant-loop-j : goal.invariant-loop-j
invariant-loop-j l = JoinsParts l.fn.at l.j l.fn.width l.fn.first l.fn.k l.fn.p l.initial.rows l.rows
