-- What a prediction has of a scenario.
use Rattle.std.specs.Prelude.{◌≡◌, ◌↔◌, ℕ, ◌<◌, ◌≤◌, List, [], length, map, true, false, IsTrue, pos}
use Rattle.std.specs.List.{AllByRecursion}
use Rattle.spot_terms.specs.Cells.{Lane}
use Rattle.spot_terms.specs.LanePolygons.{AreLanePolygons}
use Rattle.spot_terms.specs.Lists.{Pairwise, numbers_below}
use Rattle.spot_terms.specs.Participants.{starting, IsStartOf, FollowsLanes, HasPairs, PairsSumTo}
use Rattle.spot_terms.specs.Ranges.{IsStart}
use Rattle.spot_terms.specs.Reach.{interval_numbers, disc_numbers}
use Rattle.spot_terms.specs.Types.{TypeRow, HasType}
use Rattle.spot_terms.specs.Whole.{SizeAtMost}
use Rattle.spot_terms.specs.declared.limits.TheConstants.{MOST_LANE_POLYGONS}
use Rattle.spot_terms.specs.declared.plain.AccStart.{AccStart}
use Rattle.spot_terms.specs.declared.scenario.Kind.{Kind}
use Rattle.spot_terms.specs.declared.scenario.Mover.{Mover}
use Rattle.spot_terms.specs.declared.scenario.Fixed.{Fixed}
use Rattle.spot_terms.specs.declared.scenario.Scenario.{Scenario}
use Rattle.convex_poly.specs.declared.oct_numbers.OctNumbers.{OctNumbers}
use Rattle.lane_occupancy.specs.Laws.{HoldsLaneBodies}
use Rattle.lane_occupancy.specs.Polygons.{polygon_of}
use Rattle.participants.specs.declared.bounds.TypeBounds.{TypeBounds}
use Rattle.participants.specs.declared.participant.Participant.{Participant}
use Rattle.participants.specs.declared.prediction.PredictFault.{PredictFault}
use Rattle.participants.specs.declared.prediction.PredictFault.TheVariants.{TooManyLanePolygons, Memory}

-- the bounds are those of the type's row, and so is whether it follows lanes
pub record HasBounds (kind : Kind) (bounds : TypeBounds) : Type 0 where
  pub type : TypeRow
  pub type_is : HasType kind type
  pub a : bounds.a ≡ pos type.a
  pub v : bounds.v ≡ type.v
  pub lane : bounds.follows_lanes ≡ type.follows_lanes

-- the octagons of the intervals below `steps`
abbrev pub AreOctagons : AccStart → ℕ → ℕ → List OctNumbers → Type 0
AreOctagons s k steps octagons = map (λ o. o.n) octagons ≡ map (interval_numbers s k) (numbers_below steps)

-- a participant, with its octagons, and where it follows lanes with its lane polygons
pub record IsParticipant (lanes : List Lane) (k steps : ℕ) (m : Mover) (p : Participant) : Type 0 where
  pub id : p.id ≡ m.id
  pub start : IsStartOf m p.start p.speed
  pub range : IsStart p.start
  pub lane : IsTrue p.lane ↔ FollowsLanes lanes m
  pub polygons : p.lane ≡ true → AreLanePolygons lanes p.start p.speed k steps (map polygon_of p.polys)
  pub free : p.lane ≡ false → p.polys ≡ []
  pub octagons : AreOctagons p.start k steps p.octs

abbrev pub IsFixedOctagon : Fixed → ℕ × OctNumbers → Type 0
IsFixedOctagon f o = (o.0 ≡ f.id) × (o.1.n ≡ disc_numbers (record { x = f.x; y = f.y }) f.enclosing)

-- what a prediction shows: its participants, the static obstacles, and how many intervals it looks at
pub record Occupancies : Type 0 where
  pub participants : List Participant
  pub fixed : List (ℕ × OctNumbers)
  pub steps : ℕ

-- each dynamic obstacle whose initial time is 0 is a participant, and each static obstacle has its octagon, both in
-- document order
pub record IsPrediction (s : Scenario) (steps : ℕ) (p : Occupancies) : Type 0 where
  pub participants : Pairwise (IsParticipant s.lanelets.entries s.step steps) (starting s.movers) p.participants
  pub fixed : Pairwise IsFixedOctagon s.fixed p.fixed
  pub horizon : p.steps ≡ steps

-- each whole point of the body of each lane motion of the participant lies, at each tick of an interval, in one of its
-- polygons that is reached by then
abbrev pub HoldsMotions : List Lane → ℕ → ℕ → Participant → Type 0
HoldsMotions lanes k steps p = p.lane ≡ true → HoldsLaneBodies lanes p.start p.speed k steps (map polygon_of p.polys)

-- the number of all lane polygons, which are too many; want of memory may come at any time
abbrev pub IsPredictFault : Scenario → ℕ → PredictFault → Type 0
IsPredictFault s steps (TooManyLanePolygons n) = HasPairs s steps n × (MOST_LANE_POLYGONS < n)
IsPredictFault s steps Memory = Unit {0}

-- a scenario has one such number at most
abbrev pub PairsAreOne : Type 0
PairsAreOne = (lanes : List Lane) (k steps : ℕ) (movers : List Mover) (n m : ℕ) → PairsSumTo lanes k steps movers n → PairsSumTo lanes k steps movers m → n ≡ m

-- ---- sizes

-- the numbers of an octagon are those of one
abbrev pub IsSmall : OctNumbers → Type 0
IsSmall o = AllByRecursion (SizeAtMost 100_000_000_000_000) o.n

-- an octagon for each interval, whose numbers are small
pub record HasSmallOctagons (steps : ℕ) (octs : List OctNumbers) : Type 0 where
  pub long : length octs ≡ steps
  pub small : AllByRecursion IsSmall octs

-- and no more lane polygons than all participants may have together
pub record IsSmallIn (steps : ℕ) (p : Participant) : Type 0 where
  pub octagons : HasSmallOctagons steps p.octs
  pub few : length p.polys ≤ MOST_LANE_POLYGONS
