-- What is read of a tree, and the checks of each element that is read. The refusal is the failing check at the least
-- place, and at one place the first of the element's line.
use Rattle.std.specs.Prelude.{◌≡◌, ◌⊎◌, ℕ, ◌*◌, ◌<◌, ◌≤◌, ◌^◌, List, [], ◌∷◌, ◌++◌, length, Bool, true, false, ◌||◌, ◌&&◌, ◌==◌, not, nat_lt, Option, Some, None, option_map, unwrap_or, is_none, flat_map, codes, ℤ, pos, neg_ℤ, nat_abs, IsTrue, count_by, ◌<ℤ◌, refl}
use Rattle.spot_terms.specs.declared.limits.TheConstants.{MOST_OBSTACLES}
use Rattle.std.specs.List.{list_all, list_any}
use Rattle.std.specs.Str.{bytes_eq}
use Rattle.spot_terms.specs.Lists.{At, Includes}
use Rattle.spot_terms.specs.Decimal.{fraction_of, Reads}
use Rattle.spot_terms.specs.declared.status.Code.{Code}
use Rattle.spot_terms.specs.declared.status.Code.TheVariants.{Root, Version, Missing, BadNumber, OutOfRange, StepSize, BadId, DuplicateId, BoundCount, UncertainPosition, UncertainValue, TooManyParticipants}
use Rattle.spot_claims.specs.Tree.{Element, IsTreeOf, is_called, first_named, attribute_at, text_at}
use Rattle.spot_claims.specs.Paths.{Path, each_child, first_child, walk, at_path, lanelets, statics, dynamics, problems, id_at}

-- ---- words for the checks

-- the elements that these paths lead to
abbrev pub at_paths : List Element → List Path → List ℕ
at_paths tree paths = flat_map (at_path tree) paths

abbrev pub lacks : List Element → ℕ → List ℕ → Bool
lacks tree e name = is_none (first_named tree name e)

-- one of these children isn't there
abbrev pub lacks_one : List Element → ℕ → List (List ℕ) → Bool
lacks_one tree e names = list_any (lacks tree e) names

-- none of these children is there
abbrev pub lacks_all : List Element → ℕ → List (List ℕ) → Bool
lacks_all tree e names = list_all (lacks tree e) names

abbrev pub same_id : Option ℕ → Option ℕ → Bool
same_id None b = false
same_id (Some m) None = false
same_id (Some m) (Some n) = m == n

-- an element of the list that stands before e has its id
abbrev pub is_second : List Element → List ℕ → ℕ → Bool
is_second tree among e = list_any (λ d. nat_lt d e && same_id (id_at tree d) (id_at tree e)) among

-- how many points the first bound of this name has
abbrev pub point_count : List Element → List ℕ → ℕ → ℕ
point_count tree bound e = length (walk tree (first_child bound ∷ each_child (codes "point") ∷ []) (e ∷ []))

-- the text of the root's attribute, or none
abbrev pub step_size_text : List Element → List ℕ
step_size_text tree = unwrap_or (attribute_at tree 0 (codes "timeStepSize")) []

-- what a number is read as: its places and its range
pub record Number : Type 0 where
  pub places : ℕ
  pub least : ℤ
  pub most : ℤ

-- the text is longer than 64 bytes, or no decimal
abbrev pub is_bad_number : List ℕ → Bool
is_bad_number text = nat_lt 64 (length text) || is_none (fraction_of text)

-- the text is a decimal of at most 64 bytes, and this is its reading
pub record IsNumber (places : ℕ) (text : List ℕ) (r : ℤ) : Type 0 where
  pub short : length text ≤ 64
  pub reads : Reads places text r

-- the reading is past 10^18 in size
pub record IsTooLarge (places : ℕ) (text : List ℕ) : Type 0 where
  pub reading : ℤ
  pub reads : IsNumber places text reading
  pub large : 10 ^ 18 < nat_abs reading

-- the reading is outside the range
pub record IsOutside (n : Number) (text : List ℕ) : Type 0 where
  pub reading : ℤ
  pub reads : IsNumber n.places text reading
  pub outside : (reading <ℤ n.least) ⊎ (n.most <ℤ reading)

-- the reading is no multiple of 1,000 from 1,000 to 1,000,000
pub record IsUneven (text : List ℕ) : Type 0 where
  pub reading : ℤ
  pub reads : IsNumber 6 text reading
  pub uneven : (k : ℕ) → 1 ≤ k → k ≤ 1000 → reading ≡ pos (1000 * k) → ⊥

-- ---- checks

pub data Check : Type 0 where
  -- of the root
  wrong_root : Check
  wrong_version : Check
  no_step_size : Check
  bad_step_size : Check
  large_step_size : Check
  uneven_step_size : Check
  -- of an element with an id; with the paths of the elements among which it must be the only one
  bad_id : Check
  duplicate_id : List Path → Check
  -- of an element with more than so many before it on these paths
  too_many : List Path → ℕ → Check
  bound_count : Check
  -- of children that aren't there: one of these names, or all of them
  lacks_a_child : List (List ℕ) → Check
  lacks_each_child : Code → List (List ℕ) → Check
  -- of a number
  bad_number : Check
  out_of_range : Number → Check

abbrev pub code_of : Check → Code
code_of wrong_root = Root
code_of wrong_version = Version
code_of no_step_size = Missing
code_of bad_step_size = BadNumber
code_of large_step_size = OutOfRange
code_of uneven_step_size = StepSize
code_of bad_id = BadId
code_of (duplicate_id among) = DuplicateId
code_of (too_many among n) = TooManyParticipants
code_of bound_count = BoundCount
code_of (lacks_a_child names) = Missing
code_of (lacks_each_child code names) = code
code_of bad_number = BadNumber
code_of (out_of_range n) = OutOfRange

abbrev pub FailsAt : List Element → ℕ → Check → Type 0
FailsAt tree e wrong_root = IsTrue (not (is_called tree (codes "commonRoad") e))
FailsAt tree e wrong_version = IsTrue (not (unwrap_or (option_map (λ v. bytes_eq v (codes "2020a")) (attribute_at tree e (codes "commonRoadVersion"))) false))
FailsAt tree e no_step_size = IsTrue (is_none (attribute_at tree 0 (codes "timeStepSize")))
FailsAt tree e bad_step_size = IsTrue (is_bad_number (step_size_text tree))
FailsAt tree e large_step_size = IsTooLarge 6 (step_size_text tree)
FailsAt tree e uneven_step_size = IsUneven (step_size_text tree)
FailsAt tree e bad_id = IsTrue (is_none (id_at tree e))
FailsAt tree e (duplicate_id among) = IsTrue (is_second tree (at_paths tree among) e)
FailsAt tree e (too_many among n) = count_by (λ d. nat_lt d e) (at_paths tree among) ≡ n
FailsAt tree e bound_count = IsTrue (not (point_count tree (codes "leftBound") e == point_count tree (codes "rightBound") e) || nat_lt (point_count tree (codes "leftBound") e) 2)
FailsAt tree e (lacks_a_child names) = IsTrue (lacks_one tree e names)
FailsAt tree e (lacks_each_child code names) = IsTrue (lacks_all tree e names)
FailsAt tree e bad_number = IsTrue (is_bad_number (text_at tree e))
FailsAt tree e (out_of_range n) = IsTooLarge n.places (text_at tree e) ⊎ IsOutside n (text_at tree e)

-- ---- the table

-- the elements that are read so, each by a path to where it begins and a way on from there, and their checks in order
pub record Line : Type 0 where
  pub starts : List Path
  pub ways : List Path
  pub checks : List Check

abbrev pub line : List Path → List Path → List Check → Line
line starts ways checks = record { starts = starts; ways = ways; checks = checks }

-- a path with one more step
abbrev pub to_first : Path → List ℕ → Path
to_first path name = path ++ first_child name ∷ []

abbrev pub to_each : Path → List ℕ → Path
to_each path name = path ++ each_child name ∷ []

-- ---- where lines begin

abbrev pub root : Path
root = []

abbrev pub obstacles : List Path
obstacles = statics ∷ dynamics ∷ []

-- the initial states of dynamic obstacles and of problems
abbrev pub moving_starts : List Path
moving_starts = to_first dynamics (codes "initialState") ∷ to_first problems (codes "initialState") ∷ []

-- the states of the first trajectory of a dynamic obstacle
abbrev pub recorded : Path
recorded = to_each (to_first dynamics (codes "trajectory")) (codes "state")

-- all states whose position is read
abbrev pub states : List Path
states = to_first statics (codes "initialState") ∷ moving_starts ++ recorded ∷ []

-- ---- the ways on from there

abbrev pub here : List Path
here = [] ∷ []

abbrev pub left_point : Path
left_point = to_each (to_first [] (codes "leftBound")) (codes "point")

abbrev pub right_point : Path
right_point = to_each (to_first [] (codes "rightBound")) (codes "point")

abbrev pub shape : Path
shape = to_first [] (codes "shape")

abbrev pub rectangle : Path
rectangle = to_each shape (codes "rectangle")

abbrev pub circle : Path
circle = to_each shape (codes "circle")

abbrev pub polygon : Path
polygon = to_each shape (codes "polygon")

abbrev pub corner : Path
corner = to_each polygon (codes "point")

abbrev pub rectangle_center : Path
rectangle_center = to_first rectangle (codes "center")

abbrev pub circle_center : Path
circle_center = to_first circle (codes "center")

abbrev pub position : Path
position = to_first [] (codes "position")

abbrev pub position_point : Path
position_point = to_first position (codes "point")

abbrev pub orientation : Path
orientation = to_first [] (codes "orientation")

abbrev pub velocity : Path
velocity = to_first [] (codes "velocity")

abbrev pub time : Path
time = to_first [] (codes "time")

-- the children x and y at the ends of these paths
abbrev pub coordinates : List Path → List Path
coordinates [] = []
coordinates (path ∷ paths) = to_first path (codes "x") ∷ to_first path (codes "y") ∷ coordinates paths

-- ---- the checks of a line

abbrev pub only_one : List Path → List Check
only_one among = bad_id ∷ duplicate_id among ∷ []

abbrev pub x_and_y : List Check
x_and_y = lacks_a_child (codes "x" ∷ codes "y" ∷ []) ∷ []

abbrev pub is_exact : List Check
is_exact = lacks_each_child UncertainValue (codes "exact" ∷ []) ∷ []

-- a number from -most to most, or from 0 to most
abbrev pub symmetric : ℕ → ℕ → Number
symmetric places most = record { places = places; least = neg_ℤ (pos most); most = pos most }

abbrev pub from_zero : ℕ → ℕ → Number
from_zero places most = record { places = places; least = pos 0; most = pos most }

-- a coordinate of a bound or a position, and of a corner or a centre of a shape
abbrev pub coordinate : Number
coordinate = symmetric 6 10_000_000_000_000

abbrev pub shape_coordinate : Number
shape_coordinate = symmetric 6 100_000_000

-- a length, a width or a radius
abbrev pub size : Number
size = from_zero 6 100_000_000

abbrev pub angle : Number
angle = symmetric 6 7_000_000

abbrev pub speed : Number
speed = symmetric 3 200_000

abbrev pub step_number : Number
step_number = from_zero 0 1_000_000

abbrev pub is_number : Number → List Check
is_number n = bad_number ∷ out_of_range n ∷ []

-- ---- the lines

abbrev pub root_line : Line
root_line = line (root ∷ []) here (wrong_root ∷ wrong_version ∷ no_step_size ∷ bad_step_size ∷ large_step_size ∷ uneven_step_size ∷ [])

abbrev pub lanelet_line : Line
lanelet_line = line (lanelets ∷ []) here (only_one (lanelets ∷ []) ++ lacks_a_child (codes "leftBound" ∷ codes "rightBound" ∷ []) ∷ bound_count ∷ [])

abbrev pub bound_point_line : Line
bound_point_line = line (lanelets ∷ []) (left_point ∷ right_point ∷ []) x_and_y

abbrev pub obstacle_line : Line
obstacle_line = line obstacles here (only_one obstacles ++ too_many obstacles MOST_OBSTACLES ∷ lacks_a_child (codes "shape" ∷ codes "initialState" ∷ []) ∷ [])

abbrev pub shape_line : Line
shape_line = line obstacles (shape ∷ []) (lacks_each_child Missing (codes "rectangle" ∷ codes "circle" ∷ codes "polygon" ∷ []) ∷ [])

abbrev pub rectangle_line : Line
rectangle_line = line obstacles (rectangle ∷ []) (lacks_a_child (codes "length" ∷ codes "width" ∷ []) ∷ [])

abbrev pub circle_line : Line
circle_line = line obstacles (circle ∷ []) (lacks_a_child (codes "radius" ∷ []) ∷ [])

abbrev pub polygon_line : Line
polygon_line = line obstacles (polygon ∷ []) (lacks_a_child (codes "point" ∷ []) ∷ [])

abbrev pub shape_point_line : Line
shape_point_line = line obstacles (corner ∷ rectangle_center ∷ circle_center ∷ []) x_and_y

abbrev pub fixed_start_line : Line
fixed_start_line = line (statics ∷ []) (to_first [] (codes "initialState") ∷ []) (lacks_a_child (codes "position" ∷ []) ∷ [])

abbrev pub moving_start_line : Line
moving_start_line = line moving_starts here (lacks_a_child (codes "position" ∷ codes "orientation" ∷ codes "velocity" ∷ codes "time" ∷ []) ∷ [])

abbrev pub recorded_line : Line
recorded_line = line (recorded ∷ []) here (lacks_a_child (codes "position" ∷ codes "time" ∷ []) ∷ [])

abbrev pub position_line : Line
position_line = line states (position ∷ []) (lacks_each_child UncertainPosition (codes "point" ∷ []) ∷ [])

abbrev pub position_point_line : Line
position_point_line = line states (position_point ∷ []) x_and_y

abbrev pub value_line : Line
value_line = line moving_starts (orientation ∷ velocity ∷ time ∷ []) is_exact

abbrev pub recorded_time_line : Line
recorded_time_line = line (recorded ∷ []) (time ∷ []) is_exact

abbrev pub problem_line : Line
problem_line = line (problems ∷ []) here (only_one (problems ∷ []) ++ lacks_a_child (codes "initialState" ∷ []) ∷ [])

abbrev pub bound_number_line : Line
bound_number_line = line (lanelets ∷ []) (coordinates (left_point ∷ right_point ∷ [])) (is_number coordinate)

abbrev pub position_number_line : Line
position_number_line = line states (coordinates (position_point ∷ [])) (is_number coordinate)

abbrev pub shape_number_line : Line
shape_number_line = line obstacles (coordinates (corner ∷ rectangle_center ∷ circle_center ∷ [])) (is_number shape_coordinate)

abbrev pub size_line : Line
size_line = line obstacles (to_first rectangle (codes "length") ∷ to_first rectangle (codes "width") ∷ to_first circle (codes "radius") ∷ []) (is_number size)

abbrev pub orientation_line : Line
orientation_line = line moving_starts (to_first orientation (codes "exact") ∷ []) (is_number angle)

abbrev pub velocity_line : Line
velocity_line = line moving_starts (to_first velocity (codes "exact") ∷ []) (is_number speed)

abbrev pub time_line : Line
time_line = line (moving_starts ++ recorded ∷ []) (to_first time (codes "exact") ∷ []) (is_number step_number)

abbrev pub profile : List Line
profile =
    root_line
    ∷ lanelet_line
    ∷ bound_point_line
    ∷ obstacle_line
    ∷ shape_line
    ∷ rectangle_line
    ∷ circle_line
    ∷ polygon_line
    ∷ shape_point_line
    ∷ fixed_start_line
    ∷ moving_start_line
    ∷ recorded_line
    ∷ position_line
    ∷ position_point_line
    ∷ value_line
    ∷ recorded_time_line
    ∷ problem_line
    ∷ bound_number_line
    ∷ position_number_line
    ∷ shape_number_line
    ∷ size_line
    ∷ orientation_line
    ∷ velocity_line
    ∷ time_line
    ∷ []

-- ---- the refusal

-- the line leads to the element e
pub record IsReadBy (tree : List Element) (row : Line) (e : ℕ) : Type 0 where
  pub start : Path
  pub is_start : Includes row.starts start
  pub way : Path
  pub is_way : Includes row.ways way
  pub leads : Includes (walk tree way (at_path tree start)) e

-- check number j of a line of these, from 0, fails at the element e, and it has this code
pub record FailsBy (lines : List Line) (tree : List Element) (e j : ℕ) (code : Code) : Type 0 where
  pub row : Line
  pub listed : Includes lines row
  pub read : IsReadBy tree row e
  pub check : Check
  pub at : At row.checks j check
  pub fails : FailsAt tree e check
  pub code_is : code ≡ code_of check

abbrev pub Fails : List Element → ℕ → ℕ → Code → Type 0
Fails tree e j code = FailsBy profile tree e j code

-- the first of the failing checks: at the least place, and there the first of the line
pub record IsRefused (tree : List Element) (place : ℕ) (code : Code) : Type 0 where
  pub number : ℕ
  pub fails : Fails tree place number code
  pub least : (e j : ℕ) (other : Code) → Fails tree e j other → (place < e) ⊎ ((e ≡ place) × (number ≤ j))

-- no check fails
abbrev pub IsAccepted : List Element → Type 0
IsAccepted tree = (e j : ℕ) (code : Code) → Fails tree e j code → ⊥

-- ---- a tree has one refusal at most

abbrev pub TreeHasOneRefusal : Type 0
TreeHasOneRefusal = (bytes : List ℕ) (tree : List Element) (place other : ℕ) (code reason : Code) → IsTreeOf bytes tree
    → IsRefused tree place code → IsRefused tree other reason → (place ≡ other) × (code ≡ reason)

-- ---- examples

abbrev row_element : List ℕ → List (List ℕ × List ℕ) → List ℕ → List ℕ → Element
row_element name attributes text children = record { name = name; attributes = attributes; text = text; children = children }

-- `["road"]`
row_root : is_called (row_element (codes "road") [] [] [] ∷ []) (codes "commonRoad") 0 ≡ false
row_root = refl

row_version : unwrap_or (option_map (λ v. bytes_eq v (codes "2020a")) (attribute_at (row_element (codes "commonRoad") ((codes "commonRoadVersion", codes "2018b") ∷ []) [] [] ∷ []) 0 (codes "commonRoadVersion"))) false ≡ false
row_version = refl

-- a static obstacle whose initial state has a position that is a rectangle: the position is element 2, and has no point
abbrev row_uncertain : List Element
row_uncertain =
    row_element (codes "commonRoad") [] [] (1 ∷ [])
    ∷ row_element (codes "staticObstacle") [] [] (2 ∷ [])
    ∷ row_element (codes "initialState") [] [] (3 ∷ [])
    ∷ row_element (codes "position") [] [] (4 ∷ [])
    ∷ row_element (codes "rectangle") [] [] []
    ∷ []

row_position : walk row_uncertain position (at_paths row_uncertain states) ≡ 3 ∷ []
row_position = refl

row_no_point : lacks_all row_uncertain 3 (codes "point" ∷ []) ≡ true
row_no_point = refl
