use Rattle.std.proofs.Common.{ℕ, ◌<◌, get_or}
use Rattle.spot_terms.specs.declared.plain.Pt.{Pt}
use Rattle.spot_terms.specs.Whole.{Within}
use Rattle.merge_sets.proofs.tests.are_in_rows.Given as goal

abbrev pub invariant-loop-corner : goal.invariant-loop-corner
invariant-loop-corner l = (k : ℕ) (d : Pt) → k < l.corner-index → (λ (v : Pt). Within l.o.ylo l.o.yhi v.x) (get_or l.corners k d)
