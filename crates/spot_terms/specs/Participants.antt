-- Participants: the dynamic obstacles whose initial time is 0.
use Rattle.std.specs.Prelude.{◌≡◌, ◌⊎◌, ℕ, ◌+◌, ◌==◌, max, List, [], ◌∷◌, filter, length, true, pos}
use Rattle.spot_terms.specs.Cells.{Lane}
use Rattle.spot_terms.specs.Directions.{start_box}
use Rattle.spot_terms.specs.LanePolygons.{IsReached}
use Rattle.spot_terms.specs.Lists.{Lists}
use Rattle.spot_terms.specs.Motions.{IsStartSpeed}
use Rattle.spot_terms.specs.Routes.{IsStartCell}
use Rattle.spot_terms.specs.Types.{TypeRow, HasType}
use Rattle.spot_terms.specs.declared.plain.AccStart.{AccStart}
use Rattle.spot_terms.specs.declared.scenario.Mover.{Mover}
use Rattle.spot_terms.specs.declared.scenario.Scenario.{Scenario}

-- the dynamic obstacles whose initial time is 0
abbrev pub starting : List Mover → List Mover
starting movers = filter (λ m. m.time == 0) movers

-- the start of an obstacle: its position, the box of its start velocities, its type's bounds, of which the start speed
-- may raise the speed, and its radius
pub record IsStartOf (m : Mover) (s : AccStart) (speed : ℕ) : Type 0 where
  pub x : s.p.x ≡ m.x
  pub y : s.p.y ≡ m.y
  pub b : s.b ≡ start_box m.speed m.angle
  pub speed_is : IsStartSpeed s.b speed
  pub type : TypeRow
  pub type_is : HasType m.kind type
  pub a : s.a ≡ pos type.a
  pub v : s.v ≡ pos (max type.v speed)
  pub r : s.r ≡ m.enclosing

-- its type follows lanes, and a cell holds its position
abbrev pub FollowsLanes : List Lane → Mover → Type 0
FollowsLanes lanes m = ((type : TypeRow) × HasType m.kind type × (type.follows_lanes ≡ true))
    × ((c : ℕ) × IsStartCell lanes (record { x = m.x; y = m.y }) c)

module _ (lanes : List Lane) (k steps : ℕ) where
  -- how many cells a participant reaches, each of which has a lane polygon: none where it is free
  abbrev pub ReachesCells : Mover → ℕ → Type 0
  ReachesCells m n = (FollowsLanes lanes m × ((s : AccStart) × (speed : ℕ) × (reached : List ℕ)
      × IsStartOf m s speed × Lists (IsReached lanes s speed k steps) reached × (n ≡ length reached)))
      ⊎ ((FollowsLanes lanes m → ⊥) × (n ≡ 0))

  -- the pairs of one of these participants and a cell that it reaches
  abbrev pub PairsSumTo : List Mover → ℕ → Type 0
  PairsSumTo [] n = n ≡ 0
  PairsSumTo (m ∷ ms) n = (count rest : ℕ) × ReachesCells m count × PairsSumTo ms rest × (n ≡ count + rest)

-- the scenario's participants have so many lane polygons together, in so many steps
abbrev pub HasPairs : Scenario → ℕ → ℕ → Type 0
HasPairs s steps n = PairsSumTo s.lanelets.entries s.step steps (starting s.movers) n
