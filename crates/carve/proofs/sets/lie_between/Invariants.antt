use Rattle.std.proofs.Common.{ℕ, ◌<◌, get_or}
use Rattle.spot_terms.specs.Whole.{Within}
use Rattle.spot_terms.specs.declared.plain.Pt.{Pt}
use Rattle.carve.proofs.sets.lie_between.Given as goal

-- the corners so far lie there
abbrev pub invariant-loop-corner : goal.invariant-loop-corner
invariant-loop-corner l = (k : ℕ) (d : Pt) → k < l.corner-index → Within l.lo l.hi (get_or l.corners k d).x
