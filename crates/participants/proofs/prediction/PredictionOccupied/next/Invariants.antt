use Rattle.std.proofs.Common.{◌-◌, ◌≤◌, length}
use Rattle.spot_terms.specs.Pieces.{Hits}
use Rattle.carve.specs.Ranges.{AreBeside}
use Rattle.participants.specs.Pieces.{pieces_at}
use Rattle.participants.proofs.prediction.PredictionOccupied.next.Given as goal

-- the pieces so far are beside
abbrev pub invariant-loop-piece : goal.invariant-loop-piece
invariant-loop-piece l = record {
  from : l.from ≤ l.piece;
  within : l.piece ≤ length (pieces_at l.self l.step);
  beside : AreBeside (Hits (pieces_at l.self l.step)) l.left l.right l.from l.piece;
}

abbrev pub decreases-loop-piece : goal.decreases-loop-piece
decreases-loop-piece l = length (pieces_at l.self l.step) - l.piece
