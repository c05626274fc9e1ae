-- The values that stand at the paths of a tree: the scenario.
use Rattle.std.specs.Prelude.{◌≡◌, ℕ, ◌*◌, List, [], ◌∷◌, ◌++◌, filter_map, Option, Some, None, option_map, option_and_then, unwrap_or, if◌then◌else◌, ℤ, pos, codes}
use Rattle.std.specs.Str.{bytes_eq}
use Rattle.spot_terms.specs.Lists.{Pairwise}
use Rattle.spot_terms.specs.Decimal.{Reads}
use Rattle.spot_terms.specs.Types.{type_named}
use Rattle.spot_terms.specs.declared.scenario.RawLane.{RawLane}
use Rattle.spot_terms.specs.declared.scenario.Mover.{Mover}
use Rattle.spot_terms.specs.declared.scenario.Fixed.{Fixed}
use Rattle.spot_terms.specs.declared.scenario.Problem.{Problem}
use Rattle.spot_terms.specs.declared.scenario.Scenario.{Scenario}
use Rattle.spot_claims.specs.Tree.{Element, IsTreeOf, all_named, first_named, attribute_at, text_at}
use Rattle.spot_claims.specs.Paths.{Path, each_child, first_child, walk, at_path, lanelets, statics, dynamics, problems, id_at, id_of}
use Rattle.spot_claims.specs.Profile.{IsAccepted, step_size_text}
use Rattle.spot_claims.specs.Radii.{Holds, HasRadii}

-- the elements that a path leads to from e
abbrev pub below : List Element → ℕ → Path → List ℕ
below tree e path = walk tree path (e ∷ [])

-- ---- lanelets

abbrev pub IsPair : List Element → ℕ → ℤ × ℤ → Type 0
IsPair tree e p = Holds tree e (codes "x") 6 p.0 × Holds tree e (codes "y") 6 p.1

abbrev pub reference_at : List Element → ℕ → Option ℕ
reference_at tree e = option_and_then id_of (attribute_at tree e (codes "ref"))

-- the ids that the children of a name refer to
abbrev pub references : List Element → List ℕ → ℕ → List ℕ
references tree name e = filter_map (reference_at tree) (all_named tree name e)

-- of neighbours, those that are driven in the same direction
abbrev pub neighbour_at : List Element → ℕ → Option ℕ
neighbour_at tree e = option_and_then (λ direction. if bytes_eq direction (codes "same") then reference_at tree e else None) (attribute_at tree e (codes "drivingDir"))

abbrev pub neighbours : List Element → List ℕ → ℕ → List ℕ
neighbours tree name e = filter_map (neighbour_at tree) (all_named tree name e)

abbrev pub bound_points : List Element → List ℕ → ℕ → List ℕ
bound_points tree bound e = below tree e (first_child bound ∷ each_child (codes "point") ∷ [])

pub record IsLane (tree : List Element) (e : ℕ) (l : ℕ × RawLane) : Type 0 where
  pub id : id_at tree e ≡ Some l.0
  pub left : Pairwise (IsPair tree) (bound_points tree (codes "leftBound") e) l.1.left
  pub right : Pairwise (IsPair tree) (bound_points tree (codes "rightBound") e) l.1.right
  pub successors : l.1.successors ≡ references tree (codes "successor") e
  pub predecessors : l.1.predecessors ≡ references tree (codes "predecessor") e
  pub sides : l.1.sides ≡ neighbours tree (codes "adjacentLeft") e ++ neighbours tree (codes "adjacentRight") e

-- ---- obstacles and problems

-- the number in `exact` in the first child of a name
abbrev pub HoldsExact : List Element → ℕ → List ℕ → ℕ → ℤ → Type 0
HoldsExact tree e name places r = (n : ℕ) × (first_named tree name e ≡ Some n) × Holds tree n (codes "exact") places r

abbrev pub HoldsPosition : List Element → ℕ → ℤ → ℤ → Type 0
HoldsPosition tree e x y = (n p : ℕ) × (first_named tree (codes "position") e ≡ Some n) × (first_named tree (codes "point") n ≡ Some p)
    × Holds tree p (codes "x") 6 x × Holds tree p (codes "y") 6 y

-- a recorded state: step, x and y
abbrev pub IsRecorded : List Element → ℕ → ℕ × ℤ × ℤ → Type 0
IsRecorded tree e r = HoldsExact tree e (codes "time") 0 (pos r.0) × HoldsPosition tree e r.1 r.2

-- the initial state first, then the states of the first trajectory
abbrev pub recorded_of : List Element → ℕ → List ℕ
recorded_of tree e = below tree e (first_child (codes "initialState") ∷ []) ++ below tree e (first_child (codes "trajectory") ∷ each_child (codes "state") ∷ [])

abbrev pub type_text : List Element → ℕ → List ℕ
type_text tree e = unwrap_or (option_map (text_at tree) (first_named tree (codes "type") e)) []

pub record IsMover (tree : List Element) (e : ℕ) (m : Mover) : Type 0 where
  pub id : id_at tree e ≡ Some m.id
  pub place : m.place ≡ e
  pub kind : m.kind ≡ (type_named (type_text tree e)).kind
  pub shape : (s : ℕ) × (first_named tree (codes "shape") e ≡ Some s) × HasRadii tree s m.enclosing m.inscribed
  pub start : (s : ℕ) × (first_named tree (codes "initialState") e ≡ Some s) × HoldsPosition tree s m.x m.y
      × HoldsExact tree s (codes "velocity") 3 m.speed × HoldsExact tree s (codes "orientation") 6 m.angle × HoldsExact tree s (codes "time") 0 (pos m.time)
  pub recorded : Pairwise (IsRecorded tree) (recorded_of tree e) m.recorded

pub record IsFixed (tree : List Element) (e : ℕ) (f : Fixed) : Type 0 where
  pub id : id_at tree e ≡ Some f.id
  pub place : f.place ≡ e
  pub shape : (s : ℕ) × (first_named tree (codes "shape") e ≡ Some s) × HasRadii tree s f.enclosing f.inscribed
  pub start : (s : ℕ) × (first_named tree (codes "initialState") e ≡ Some s) × HoldsPosition tree s f.x f.y

pub record IsProblem (tree : List Element) (e : ℕ) (p : Problem) : Type 0 where
  pub id : id_at tree e ≡ Some p.id
  pub place : p.place ≡ e
  pub start : (s : ℕ) × (first_named tree (codes "initialState") e ≡ Some s) × HoldsPosition tree s p.x p.y
      × HoldsExact tree s (codes "velocity") 3 p.speed × HoldsExact tree s (codes "orientation") 6 p.angle × HoldsExact tree s (codes "time") 0 (pos p.time)

-- the tree is accepted, and these are the values at its paths
pub record IsScenario (tree : List Element) (s : Scenario) : Type 0 where
  pub accepted : IsAccepted tree
  pub step : Reads 6 (step_size_text tree) (pos (1000 * s.step))
  pub lanelets : Pairwise (IsLane tree) (at_path tree lanelets) s.lanelets.entries
  pub movers : Pairwise (IsMover tree) (at_path tree dynamics) s.movers
  pub fixed : Pairwise (IsFixed tree) (at_path tree statics) s.fixed
  pub problems : Pairwise (IsProblem tree) (at_path tree problems) s.problems

-- the bytes are those of a tree with this scenario
abbrev pub IsScenarioOf : List ℕ → Scenario → Type 0
IsScenarioOf bytes s = (tree : List Element) × IsTreeOf bytes tree × IsScenario tree s

-- ---- a tree has one scenario at most

abbrev pub TreeHasOneScenario : Type 0
TreeHasOneScenario = (tree : List Element) (s t : Scenario) → IsScenario tree s → IsScenario tree t
    → (s.step ≡ t.step) × (s.movers ≡ t.movers) × (s.fixed ≡ t.fixed) × (s.problems ≡ t.problems) × (s.lanelets.entries ≡ t.lanelets.entries)
