use Rattle.std.proofs.Common.{ℕ, ◌<◌, get_or}
use Rattle.spot_terms.specs.declared.plain.Pt.{Pt}
use Rattle.propagate.specs.Children.{IsStepPoint}
use Rattle.propagate.proofs.tests.are_step_points.Given as goal

abbrev pub invariant-loop-corner : goal.invariant-loop-corner
invariant-loop-corner l = (k : ℕ) (d : Pt) → k < l.corner-index → IsStepPoint (get_or l.corners k d)
