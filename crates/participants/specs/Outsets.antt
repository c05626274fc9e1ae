-- What is known of participants before their occupancies are made, and what is gathered of them.
use Rattle.std.specs.Prelude.{◌≡◌, ℕ, ◌≤◌, List, [], map, Option, Some, None}
use Rattle.std.specs.List.{AllByRecursion}
use Rattle.spot_terms.specs.Cells.{Lane}
use Rattle.spot_terms.specs.LanePolygons.{AreLanePolygons}
use Rattle.spot_terms.specs.Lists.{Pairwise}
use Rattle.spot_terms.specs.Motions.{IsStartSpeed}
use Rattle.spot_terms.specs.Participants.{IsStartOf, FollowsLanes, ReachesCells, PairsSumTo}
use Rattle.spot_terms.specs.Ranges.{IsStart}
use Rattle.spot_terms.specs.declared.limits.TheConstants.{MOST_LANE_POLYGONS}
use Rattle.spot_terms.specs.declared.plain.AccStart.{AccStart}
use Rattle.spot_terms.specs.declared.scenario.Mover.{Mover}
use Rattle.lane_occupancy.specs.Laws.{HoldsLaneBodies}
use Rattle.lane_occupancy.specs.Polygons.{polygon_of, AreLabelsOf}
use Rattle.lane_occupancy.specs.declared.polygons.LanePoly.{LanePoly}
use Rattle.participants.specs.Predictions.{IsParticipant, HoldsMotions, HasSmallOctagons, IsSmallIn}
use Rattle.participants.specs.declared.outset.Outset.{Outset}
use Rattle.participants.specs.declared.participant.Participant.{Participant}

-- the obstacle follows lanes exactly where there are labels
abbrev pub TellsLane : List Lane → Mover → Option (List (Option ℕ)) → Type 0
TellsLane lanes m None = FollowsLanes lanes m → ⊥
TellsLane lanes m (Some labels) = FollowsLanes lanes m

module _ (lanes : List Lane) (k steps : ℕ) where
  -- the labels from the start, where there are any
  abbrev pub HasLabels : AccStart → Option (List (Option ℕ)) → Type 0
  HasLabels s None = Unit {0}
  HasLabels s (Some labels) = AreLabelsOf lanes s k steps labels

  -- the lane polygons, where there are labels, and else none
  abbrev pub HasPolygons : AccStart → Option (List (Option ℕ)) → List LanePoly → Type 0
  HasPolygons s None polys = polys ≡ []
  HasPolygons s (Some labels) polys = (speed : ℕ) → IsStartSpeed s.b speed
      → AreLanePolygons lanes s speed k steps (map polygon_of polys) × HoldsLaneBodies lanes s speed k steps (map polygon_of polys)

  -- the start of the obstacle, its labels, and the number of cells that it reaches
  pub record IsOutset (m : Mover) (o : Outset) : Type 0 where
    pub start : IsStartOf m o.start.start o.start.speed
    pub range : IsStart o.start.start
    pub lane : TellsLane lanes m o.labels
    pub labels : HasLabels o.start.start o.labels
    pub count : ReachesCells lanes k steps m o.count
    pub small : o.count ≤ 4_294_967_295

  -- a participant whose polygons hold its lane motions
  pub record IsHolding (m : Mover) (p : Participant) : Type 0 where
    pub participant : IsParticipant lanes k steps m p
    pub holds : HoldsMotions lanes k steps p
    pub octagons : HasSmallOctagons steps p.octs

  -- the number of the pairs of all these obstacles, and the participants that they are, where there aren't too many pairs
  pub record AreGathered (movers : List Mover) (pairs : ℕ) (participants : List Participant) : Type 0 where
    pub sum : PairsSumTo lanes k steps movers pairs
    pub few : pairs ≤ MOST_LANE_POLYGONS → Pairwise IsHolding movers participants
    pub small : pairs ≤ MOST_LANE_POLYGONS → AllByRecursion (IsSmallIn steps) participants
