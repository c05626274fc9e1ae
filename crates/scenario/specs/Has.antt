-- What an accepted tree has at the elements that are read.
use Rattle.std.specs.Prelude.{◌≡◌, ◌⊎◌, ℕ, ◌≤◌, List, [], ◌∷◌, length, Some, false, codes}
use Rattle.spot_terms.specs.Lists.{Includes}
use Rattle.spot_claims.specs.Tree.{Element, all_named, first_named, text_at}
use Rattle.spot_claims.specs.Paths.{at_path, each_child, first_child, id_at, lanelets}
use Rattle.spot_claims.specs.Scenario.{below, bound_points}
use Rattle.spot_claims.specs.Profile.{Number, lacks_all, is_bad_number, IsTooLarge, IsOutside, coordinate, shape_coordinate, size, angle, speed, step_number, recorded}

-- a number in its range
pub record IsGood (n : Number) (text : List ℕ) : Type 0 where
  pub good : is_bad_number text ≡ false
  pub fits : IsTooLarge n.places text ⊎ IsOutside n text → ⊥

-- the first child of a name is such a number
pub record HasNumber (tree : List Element) (e : ℕ) (name : List ℕ) (n : Number) : Type 0 where
  pub child : ℕ
  pub child_is : first_named tree name e ≡ Some child
  pub good : IsGood n (text_at tree child)

pub record HasPoint (tree : List Element) (e : ℕ) (n : Number) : Type 0 where
  pub x : HasNumber tree e (codes "x") n
  pub y : HasNumber tree e (codes "y") n

-- the first child of a name has a number in `exact`
pub record HasExact (tree : List Element) (e : ℕ) (name : List ℕ) (n : Number) : Type 0 where
  pub child : ℕ
  pub child_is : first_named tree name e ≡ Some child
  pub exact : HasNumber tree child (codes "exact") n

pub record HasPosition (tree : List Element) (e : ℕ) : Type 0 where
  pub position : ℕ
  pub position_is : first_named tree (codes "position") e ≡ Some position
  pub point : ℕ
  pub point_is : first_named tree (codes "point") position ≡ Some point
  pub has : HasPoint tree point coordinate

-- the initial state of what moves
pub record HasStart (tree : List Element) (e : ℕ) : Type 0 where
  pub position : HasPosition tree e
  pub orientation : HasExact tree e (codes "orientation") angle
  pub velocity : HasExact tree e (codes "velocity") speed
  pub time : HasExact tree e (codes "time") step_number

-- a state of a trajectory
pub record HasRecorded (tree : List Element) (e : ℕ) : Type 0 where
  pub position : HasPosition tree e
  pub time : HasExact tree e (codes "time") step_number

-- all states that are recorded
abbrev pub AllRecorded : List Element → Type 0
AllRecorded tree = (e : ℕ) → Includes (at_path tree recorded) e → HasRecorded tree e

-- ---- shapes

-- where a part has a centre, it is a point
abbrev pub HasCenter : List Element → ℕ → Type 0
HasCenter tree e = (c : ℕ) → first_named tree (codes "center") e ≡ Some c → HasPoint tree c shape_coordinate

pub record HasCircle (tree : List Element) (e : ℕ) : Type 0 where
  pub radius : HasNumber tree e (codes "radius") size
  pub center : HasCenter tree e

pub record HasRectangle (tree : List Element) (e : ℕ) : Type 0 where
  pub length : HasNumber tree e (codes "length") size
  pub width : HasNumber tree e (codes "width") size
  pub center : HasCenter tree e

abbrev pub HasCorners : List Element → List ℕ → Type 0
HasCorners tree ns = (n : ℕ) → Includes ns n → HasPoint tree n shape_coordinate

pub record HasShape (tree : List Element) (shape : ℕ) : Type 0 where
  pub circles : (e : ℕ) → Includes (all_named tree (codes "circle") shape) e → HasCircle tree e
  pub rectangles : (e : ℕ) → Includes (all_named tree (codes "rectangle") shape) e → HasRectangle tree e
  pub polygons : (e : ℕ) → Includes (all_named tree (codes "polygon") shape) e → HasCorners tree (all_named tree (codes "point") e)
  pub some : lacks_all tree shape (codes "rectangle" ∷ codes "circle" ∷ codes "polygon" ∷ []) ≡ false

-- ---- obstacles and problems

pub record HasFixed (tree : List Element) (e : ℕ) : Type 0 where
  pub id : ℕ
  pub id_is : id_at tree e ≡ Some id
  pub shape : ℕ
  pub shape_is : first_named tree (codes "shape") e ≡ Some shape
  pub shape_has : HasShape tree shape
  pub start : ℕ
  pub start_is : first_named tree (codes "initialState") e ≡ Some start
  pub start_has : HasPosition tree start

-- the states of the first trajectory
abbrev pub later_states : List Element → ℕ → List ℕ
later_states tree e = below tree e (first_child (codes "trajectory") ∷ each_child (codes "state") ∷ [])

pub record HasMover (tree : List Element) (e : ℕ) : Type 0 where
  pub id : ℕ
  pub id_is : id_at tree e ≡ Some id
  pub shape : ℕ
  pub shape_is : first_named tree (codes "shape") e ≡ Some shape
  pub shape_has : HasShape tree shape
  pub start : ℕ
  pub start_is : first_named tree (codes "initialState") e ≡ Some start
  pub start_has : HasStart tree start
  pub states : (n : ℕ) → Includes (later_states tree e) n → HasRecorded tree n

pub record HasProblem (tree : List Element) (e : ℕ) : Type 0 where
  pub id : ℕ
  pub id_is : id_at tree e ≡ Some id
  pub start : ℕ
  pub start_is : first_named tree (codes "initialState") e ≡ Some start
  pub start_has : HasStart tree start

-- ---- lanelets

abbrev pub HasPoints : List Element → List ℕ → Type 0
HasPoints tree ns = (n : ℕ) → Includes ns n → HasPoint tree n coordinate

-- the points of both bounds
pub record HasBounds (tree : List Element) (e : ℕ) : Type 0 where
  pub left : HasPoints tree (bound_points tree (codes "leftBound") e)
  pub right : HasPoints tree (bound_points tree (codes "rightBound") e)

-- the points of all lanelets
abbrev pub AllBounds : List Element → Type 0
AllBounds tree = (e : ℕ) → Includes (at_path tree lanelets) e → HasBounds tree e

pub record HasLane (tree : List Element) (e : ℕ) : Type 0 where
  pub id : ℕ
  pub id_is : id_at tree e ≡ Some id
  pub left : HasPoints tree (bound_points tree (codes "leftBound") e)
  pub right : HasPoints tree (bound_points tree (codes "rightBound") e)
  pub even : length (bound_points tree (codes "leftBound") e) ≡ length (bound_points tree (codes "rightBound") e)
  pub some : 2 ≤ length (bound_points tree (codes "leftBound") e)
