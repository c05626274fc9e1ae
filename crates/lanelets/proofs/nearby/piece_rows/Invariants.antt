use Rattle.lanelets.specs.Listing.{AreRows}
use Rattle.lanelets.specs.Nearby.{HasPieceNumber}
use Rattle.lanelets.specs.Steps.{net_of}
use Rattle.lanelets.proofs.nearby.piece_rows.Given as goal

abbrev pub invariant-loop-c : goal.invariant-loop-c
invariant-loop-c l = AreRows (λ c e. HasPieceNumber l.parts (net_of l.cells) c e) l.c l.rows.items
