use Rattle.std.proofs.Common.{ℕ, ◌<◌}
use Rattle.spot_terms.specs.Frames.{at}
use Rattle.area_run.proofs.first.is_start_removed.Given as goal

-- no piece so far removes the start
abbrev pub invariant-loop-piece : goal.invariant-loop-piece
invariant-loop-piece g l = record {
  none : (p : ℕ) → p < l.piece → g.O.Occupied.hits l.o 0 p (at l.plan.s.p.x l.low) → g.O.Occupied.hits l.o 0 p (at l.plan.s.p.x l.high) → ⊥;
}
