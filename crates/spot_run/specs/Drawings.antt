-- The drawing of a step of the drivable area.
use Rattle.std.specs.Prelude.{ℕ, List, map}
use Rattle.spot_terms.specs.BaseSets.{SetValue}
use Rattle.spot_terms.specs.Courses.{Course, box_at}
use Rattle.spot_terms.specs.Drawings.{shape_of, drawing_text}
use Rattle.participants.specs.Pieces.{pieces_at}
use Rattle.participants.specs.Predictions.{Occupancies}

-- the drawing of step i: its outer box, the pieces that a prediction has there, and these sets
abbrev pub drawing_at : Course → Occupancies → ℕ → List SetValue → List ℕ
drawing_at course o i sets = drawing_text (box_at course i) (map shape_of (pieces_at o i)) sets
