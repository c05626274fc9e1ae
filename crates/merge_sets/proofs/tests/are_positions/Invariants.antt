use Rattle.std.proofs.Common.{ℕ, ◌<◌, get_or}
use Rattle.spot_terms.specs.declared.plain.Pt.{Pt}
use Rattle.convex_poly.specs.Polygons.{IsPosition}
use Rattle.merge_sets.proofs.tests.are_positions.Given as goal

abbrev pub invariant-loop-corner : goal.invariant-loop-corner
invariant-loop-corner l = (k : ℕ) (d : Pt) → k < l.corner-index → IsPosition (get_or l.corners k d)
