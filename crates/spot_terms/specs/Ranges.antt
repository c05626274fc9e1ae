-- The ranges of values that are handed to calls.
use Rattle.std.specs.Prelude.{◌≡◌, ℕ, ℤ, ◌≤◌, ◌+◌, List, [], ◌∷◌, length, pos, ◌≤ℤ◌}
use Rattle.spot_terms.specs.declared.limits.TheConstants.{MOST_BYTES, MOST_OBSTACLES, MOST_STEPS}
use Rattle.std.specs.List.{AllByRecursion}
use Rattle.spot_terms.specs.Whole.{Within, SizeAtMost}
use Rattle.spot_terms.specs.declared.command.Command.{Command}
use Rattle.spot_terms.specs.declared.plain.VBox.{VBox}
use Rattle.spot_terms.specs.declared.plain.AccStart.{AccStart}
use Rattle.spot_terms.specs.declared.scenario.Mover.{Mover}
use Rattle.spot_terms.specs.declared.scenario.Fixed.{Fixed}
use Rattle.spot_terms.specs.declared.scenario.Problem.{Problem}
use Rattle.spot_terms.specs.declared.scenario.RawLane.{RawLane}

-- a box of velocities: in order, and each end at most m in size
pub record IsBoxWithin (m : ℕ) (b : VBox) : Type 0 where
  pub x_ordered : b.xlo ≤ℤ b.xhi
  pub y_ordered : b.ylo ≤ℤ b.yhi
  pub xlo : SizeAtMost m b.xlo
  pub xhi : SizeAtMost m b.xhi
  pub ylo : SizeAtMost m b.ylo
  pub yhi : SizeAtMost m b.yhi

-- a participant's start: the position at most 2·10^13, speeds at most 900,000 in size, the acceleration from 1 to 20
pub record IsStart (s : AccStart) : Type 0 where
  pub x : SizeAtMost 20_000_000_000_000 s.p.x
  pub y : SizeAtMost 20_000_000_000_000 s.p.y
  pub box : IsBoxWithin 900_000 s.b
  pub a : Within (pos 1) (pos 20) s.a
  pub v : Within (pos 0) (pos 900_000) s.v
  pub r : s.r ≤ 400_000_000

-- a dynamic obstacle of an accepted scenario
pub record IsMoverInRange (m : Mover) : Type 0 where
  pub id : m.id ≤ 4_294_967_295
  pub x : SizeAtMost 10_000_000_000_000 m.x
  pub y : SizeAtMost 10_000_000_000_000 m.y
  pub speed : SizeAtMost 200_000 m.speed
  pub angle : SizeAtMost 7_000_000 m.angle
  pub time : m.time ≤ 1_000_000
  pub enclosing : m.enclosing ≤ 250_000_000
  pub inscribed : m.inscribed ≤ 250_000_000

-- a recorded state of an accepted scenario: its step, x and y
pub record IsStateInRange (r : ℕ × ℤ × ℤ) : Type 0 where
  pub time : r.0 ≤ 1_000_000
  pub x : SizeAtMost 10_000_000_000_000 r.1
  pub y : SizeAtMost 10_000_000_000_000 r.2

-- the recorded states of a dynamic obstacle of an accepted scenario
abbrev pub AreStatesInRange : Mover → Type 0
AreStatesInRange m = AllByRecursion IsStateInRange m.recorded

-- a static obstacle of an accepted scenario
pub record IsFixedInRange (f : Fixed) : Type 0 where
  pub id : f.id ≤ 4_294_967_295
  pub x : SizeAtMost 10_000_000_000_000 f.x
  pub y : SizeAtMost 10_000_000_000_000 f.y
  pub enclosing : f.enclosing ≤ 250_000_000
  pub inscribed : f.inscribed ≤ 250_000_000

-- a planning problem of an accepted scenario
pub record IsProblemInRange (p : Problem) : Type 0 where
  pub id : p.id ≤ 4_294_967_295
  pub x : SizeAtMost 10_000_000_000_000 p.x
  pub y : SizeAtMost 10_000_000_000_000 p.y
  pub speed : SizeAtMost 200_000 p.speed
  pub angle : SizeAtMost 7_000_000 p.angle
  pub time : p.time ≤ 1_000_000

-- a point of a bound, at most 10^13 in size
pub record IsPairInRange (p : ℤ × ℤ) : Type 0 where
  pub x : SizeAtMost 10_000_000_000_000 p.0
  pub y : SizeAtMost 10_000_000_000_000 p.1

-- a lanelet of which a network can be built: bounds of as many points, at least 2, at most 10^13 in size
pub record IsLaneInRange (l : RawLane) : Type 0 where
  pub even : length l.left ≡ length l.right
  pub some : 2 ≤ length l.left
  pub left : AllByRecursion IsPairInRange l.left
  pub right : AllByRecursion IsPairInRange l.right

-- ---- how much there may be

-- how many states are recorded of all dynamic obstacles
abbrev pub recorded_count : List Mover → ℕ
recorded_count [] = 0
recorded_count (m ∷ ms) = length m.recorded + recorded_count ms

-- the points of the bounds of a lanelet and its references
abbrev pub lane_size : RawLane → ℕ
lane_size l = length l.left + length l.right + length l.successors + length l.predecessors + length l.sides

-- those of all lanelets
abbrev pub lanes_size : List (ℕ × RawLane) → ℕ
lanes_size [] = 0
lanes_size (l ∷ ls) = lane_size l.1 + lanes_size ls

-- lanelets of which a network can be built; they have few points and references together
pub record AreBuildable (lanes : List (ℕ × RawLane)) : Type 0 where
  pub each : AllByRecursion (λ l. IsLaneInRange l.1) lanes
  pub few : lanes_size lanes ≤ MOST_BYTES

-- ---- a scenario

-- the values of an accepted scenario: its step, its lanelets, its obstacles and its problems; there are few of all together
pub record IsInRange (step : ℕ) (lanelets : List (ℕ × RawLane)) (movers : List Mover) (fixed : List Fixed) (problems : List Problem) : Type 0 where
  pub step_low : 1 ≤ step
  pub step_high : step ≤ 1000
  pub few : length movers + length fixed ≤ MOST_OBSTACLES
  pub few_recorded : recorded_count movers + length problems ≤ MOST_BYTES
  pub buildable : AreBuildable lanelets
  pub each_mover : AllByRecursion IsMoverInRange movers
  pub each_state : AllByRecursion AreStatesInRange movers
  pub each_fixed : AllByRecursion IsFixedInRange fixed
  pub each_problem : AllByRecursion IsProblemInRange problems

-- ---- commands

-- the numbers of a command; the wanted id is any that its type has
pub record IsCommandInRange (c : Command) : Type 0 where
  pub steps : (1 ≤ c.steps) × (c.steps ≤ MOST_STEPS)
  pub ego_acc : (1 ≤ c.ego_acc) × (c.ego_acc ≤ 20)
  pub ego_speed : (1 ≤ c.ego_speed) × (c.ego_speed ≤ 100)
  pub ego_length : (100 ≤ c.ego_length) × (c.ego_length ≤ 20_000)
  pub ego_width : (100 ≤ c.ego_width) × (c.ego_width ≤ 20_000)
  pub cell_x : (100 ≤ c.cell_x) × (c.cell_x ≤ 100_000)
  pub cell_y : (100 ≤ c.cell_y) × (c.cell_y ≤ 100_000)
  pub lanes : (1 ≤ c.lanes) × (c.lanes ≤ 8)
  pub movers : c.movers ≤ 1000
