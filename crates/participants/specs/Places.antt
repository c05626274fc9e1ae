-- Where the pieces of the participants are kept.
use Rattle.std.specs.Prelude.{◌≡◌, ℕ, ◌*◌, ◌+◌, ◌<◌, ◌≤◌, List, [], None, filter, flat_map, length, nat_le, pos, slice_index_or, take, true, false, if◌then◌else◌}
use Rattle.std.specs.List.{AllByRecursion}
use Rattle.spot_terms.specs.Lists.{Pairwise}
use Rattle.spot_terms.specs.Pieces.{Piece, octagon, cut_octagon}
use Rattle.spot_terms.specs.declared.limits.TheConstants.{MOST_LANE_POLYGONS, MOST_OBSTACLES}
use Rattle.lane_occupancy.specs.declared.polygons.LanePoly.{LanePoly}
use Rattle.participants.specs.Pieces.{no_octagon, octagon_at, participant_pieces, IsOutlined}
use Rattle.participants.specs.Predictions.{Occupancies, IsSmall, IsSmallIn}
use Rattle.participants.specs.declared.participant.Participant.{Participant}
use Rattle.participants.specs.declared.places.Interval.{Interval}
use Rattle.participants.specs.declared.places.Place.{Place}

-- ---- places of pieces

abbrev pub nobody : Participant
nobody = record { id = 0; start = record { p = record { x = pos 0; y = pos 0 }; b = record { xlo = pos 0; xhi = pos 0; ylo = pos 0; yhi = pos 0 }; a = pos 0; v = pos 0; r = 0 }; speed = 0; lane = false; polys = []; octs = [] }

abbrev pub no_polygon : LanePoly
no_polygon = record { cell = 0; first = 0; poly = [] }

abbrev pub no_place : Place
no_place = record { who = 0; which = 0; first = 0; bounds = None }

-- a piece of a participant: its octagon where it is free, and else cut with its lane polygon of this number
abbrev pub piece_at : ℕ → ℕ → Participant → Piece
piece_at interval which p = if p.lane then cut_octagon (octagon_at p interval) (slice_index_or p.polys which no_polygon).poly else octagon (octagon_at p interval)

-- the piece is that of the participant and of its lane polygon which the place tells, and the place has its box
pub record IsPlaceOf (participants : List Participant) (interval : ℕ) (place : Place) (piece : Piece) : Type 0 where
  pub among : place.who < length participants
  pub which : (slice_index_or participants place.who nobody).lane ≡ true → place.which < length (slice_index_or participants place.who nobody).polys
  pub is : piece ≡ piece_at interval place.which (slice_index_or participants place.who nobody)
  pub outline : IsOutlined piece (slice_index_or (slice_index_or participants place.who nobody).octs interval no_octagon) place.bounds

-- the places of an interval: those whose first interval isn't later
abbrev pub places_in : ℕ → List Place → List Place
places_in interval places = filter (λ x. nat_le x.first interval) places

-- the places are those of the participants' pieces in the interval, in order
abbrev pub ArePlaces : List Participant → ℕ → List Place → Type 0
ArePlaces participants interval places = Pairwise (IsPlaceOf participants interval) places (flat_map (participant_pieces interval) participants)

-- no participant has more lane polygons than all may have together
abbrev pub HaveFewPolygons : List Participant → Type 0
HaveFewPolygons participants = AllByRecursion (λ p. length p.polys ≤ MOST_LANE_POLYGONS) participants

-- ---- finding the place of a rank

-- all places, and of how many intervals they are counted
pub record PlaceTable : Type 0 where
  pub places : List Place
  pub intervals : ℕ

-- how many places of the interval stand before this one of all places
abbrev pub count_before : List Place → ℕ → ℕ → ℕ
count_before places interval i = length (places_in interval (take i places))

-- how many places the interval has, and how many of them stand before each block of 16 places
pub record IsCounted (places : List Place) (interval : ℕ) (counted : Interval) : Type 0 where
  pub count : counted.count ≡ length (places_in interval places)
  pub all : length places ≤ length counted.before * 16
  pub needed : length counted.before * 16 < length places + 16
  pub before : (b : ℕ) → b < length counted.before → slice_index_or counted.before b 0 ≡ count_before places interval (b * 16)

abbrev pub no_interval : Interval
no_interval = record { count = 0; before = [] }

-- the places of each of the intervals are counted
pub record AreCounted (places : List Place) (intervals : List Interval) : Type 0 where
  pub each : (m : ℕ) → m < length intervals → IsCounted places m (slice_index_or intervals m no_interval)

-- ---- what is true of what a prediction keeps

pub record IsKept (o : Occupancies) (table : PlaceTable) : Type 0 where
  pub participants : AllByRecursion (IsSmallIn o.steps) o.participants
  pub fixed : AllByRecursion (λ f. IsSmall f.1) o.fixed
  pub some : 1 ≤ o.steps
  pub few : length o.participants + length o.fixed ≤ MOST_OBSTACLES
  pub intervals : table.intervals ≡ o.steps
  pub few_places : length table.places ≤ 1_073_741_824
  pub places : (interval : ℕ) → ArePlaces o.participants interval (places_in interval table.places)
