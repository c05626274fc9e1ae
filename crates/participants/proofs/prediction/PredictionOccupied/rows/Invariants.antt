use Rattle.std.proofs.Common.{◌≡◌, ◌≤◌, ◌+◌, ◌*◌, length, take}
use Rattle.spot_terms.specs.Pieces.{range_of}
use Rattle.carve.proofs.BoxSums.{rows_of}
use Rattle.participants.specs.Pieces.{pieces_at}
use Rattle.participants.specs.Places.{places_in}
use Rattle.participants.proofs.prediction.PredictionOccupied.rows.Given as goal

-- the rows of the static obstacles so far
abbrev pub invariant-loop-f : goal.invariant-loop-f
invariant-loop-f l = record {
  sum : l.rows ≡ rows_of l.g (l.b.ylo, l.b.yhi) (range_of (pieces_at l.self l.step)) l.f-index;
  few : l.rows ≤ l.f-index * 1_000_000_000;
}

-- the rows of all of them and of the places so far
abbrev pub invariant-loop-place : goal.invariant-loop-place
invariant-loop-place l = record {
  sum : l.rows ≡ rows_of l.g (l.b.ylo, l.b.yhi) (range_of (pieces_at l.self l.step)) (length l.self.fixed + length (places_in l.interval (take l.place-index l.self-inside.places.places)));
  few : l.rows ≤ (length l.self.fixed + l.place-index) * 1_000_000_000;
}
