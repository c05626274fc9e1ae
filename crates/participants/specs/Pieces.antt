-- The occupied pieces of each step of a prediction.
use Rattle.std.specs.Prelude.{◌≡◌, ℕ, ◌-◌, ◌≤◌, List, [], ◌++◌, map, flat_map, filter, nat_le, slice_get, slice_index_or, Option, Some, None, if◌then◌else◌, ℤ}
use Rattle.std.specs.Borrow.{Bor}
use Rattle.spot_terms.specs.LanePolygons.{LanePolygon}
use Rattle.spot_terms.specs.OccupiedPieces.{Occupant, AreOccupants, pieces_in, predicted_pieces}
use Rattle.spot_terms.specs.Pieces.{Piece, octagon, cut_octagon, InPiece}
use Rattle.spot_terms.specs.Whole.{Within}
use Rattle.spot_terms.specs.declared.plain.Pt.{Pt}
use Rattle.spot_terms.specs.declared.scenario.Scenario.{Scenario}
use Rattle.convex_poly.specs.Boxes.{IsBoxOf}
use Rattle.convex_poly.specs.declared.boxes.BoundingBox.{BoundingBox}
use Rattle.convex_poly.specs.declared.oct_numbers.OctNumbers.{OctNumbers}
use Rattle.lane_occupancy.specs.Polygons.{polygon_of}
use Rattle.participants.specs.Predictions.{Occupancies}
use Rattle.participants.specs.declared.participant.Participant.{Participant}

-- ---- the pieces of one participant

abbrev pub no_octagon : OctNumbers
no_octagon = record { n = [] }

-- its octagon in an interval
abbrev pub octagon_at : Participant → ℕ → List ℤ
octagon_at p interval = (slice_index_or p.octs interval no_octagon).n

-- its lane polygons where it follows lanes
abbrev pub lane_polygons : Participant → Option (List LanePolygon)
lane_polygons p = if p.lane then Some (map polygon_of p.polys) else None

-- its pieces in an interval
abbrev pub participant_pieces : ℕ → Participant → List Piece
participant_pieces interval p = pieces_in (octagon_at p interval) interval (lane_polygons p)

-- the octagon cut with each of these lane polygons that is reached by then
abbrev pub cut_pieces : List ℤ → ℕ → List LanePolygon → List Piece
cut_pieces numbers interval polygons = map (λ x. cut_octagon numbers x.corners) (filter (λ x. nat_le x.first interval) polygons)

-- ---- the pieces of a step

abbrev pub fixed_piece : ℕ × OctNumbers → Piece
fixed_piece f = octagon f.1.n

-- those of step i, in document order: the static obstacles, then the participants in the interval before the step, or in
-- the first one at step 0
unfoldable pub pieces_at : Occupancies → ℕ → List Piece
pieces_at o i = map fixed_piece o.fixed ++ flat_map (participant_pieces (i - 1)) o.participants

-- they are the pieces of the scenario
pub record HasPieces (s : Scenario) (steps : ℕ) (o : Occupancies) : Type 0 where
  pub occupants : List Occupant
  pub occupants_are : AreOccupants s steps occupants
  pub pieces : (i : ℕ) → i ≤ steps → pieces_at o i ≡ predicted_pieces s occupants i

-- ---- what the code has of a piece

-- the piece is the octagon, or the octagon cut with the polygon
abbrev pub IsFound : Option Piece → OctNumbers → Option (Bor (List Pt)) → Type 0
IsFound piece o None = piece ≡ Some (octagon o.n)
IsFound piece o (Some p) = piece ≡ Some (cut_octagon o.n p.now)

-- a piece is the octagon, or the octagon cut with a polygon that is in the box and reaches its sides
abbrev pub IsOutlined : Piece → OctNumbers → Option BoundingBox → Type 0
IsOutlined piece o None = piece ≡ octagon o.n
IsOutlined piece o (Some box) = (corners : List Pt) × (piece ≡ cut_octagon o.n corners) × IsBoxOf corners box

-- the piece of this number is there, and it is so
abbrev pub HasOutline : List Piece → ℕ → OctNumbers → Option BoundingBox → Type 0
HasOutline pieces p o bounds = (piece : Piece) × (slice_get pieces p ≡ Some piece) × IsOutlined piece o bounds

-- ---- beside places of x

-- no point of the piece has one of these x
abbrev pub IsBeside : Piece → ℤ → ℤ → Type 0
IsBeside piece left right = (q : Pt) → InPiece piece q → Within left right q.x → ⊥
