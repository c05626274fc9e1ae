-- Paths through an element tree, and the ids at their ends.
use Rattle.std.specs.Prelude.{ℕ, ◌^◌, ◌&&◌, List, [], ◌∷◌, length, nat_lt, nat_le, flat_map, filter_map, Option, Some, None, option_and_then, if◌then◌else◌, codes}
use Rattle.std.specs.List.{list_all}
use Rattle.std.specs.Char.{is_ascii_digit}
use Rattle.std.specs.Str.Parse.{digits_value}
use Rattle.spot_claims.specs.Tree.{Element, all_named, first_named, attribute_at}

-- to each child of a name, or to the first
pub data Step : Type 0 where
  each_child : List ℕ → Step
  first_child : List ℕ → Step

abbrev pub Path : Type 0
Path = List Step

abbrev pub take_step : List Element → Step → List ℕ → List ℕ
take_step tree (each_child name) es = flat_map (all_named tree name) es
take_step tree (first_child name) es = filter_map (first_named tree name) es

abbrev pub walk : List Element → Path → List ℕ → List ℕ
walk tree [] es = es
walk tree (s ∷ path) es = walk tree path (take_step tree s es)

-- the elements that a path leads to from the root, which is 0
abbrev pub at_path : List Element → Path → List ℕ
at_path tree path = walk tree path (0 ∷ [])

abbrev pub lanelets : Path
lanelets = each_child (codes "lanelet") ∷ []

abbrev pub statics : Path
statics = each_child (codes "staticObstacle") ∷ []

abbrev pub dynamics : Path
dynamics = each_child (codes "dynamicObstacle") ∷ []

abbrev pub problems : Path
problems = each_child (codes "planningProblem") ∷ []

-- the number of an id's text: one to ten digits, for a number below 2^32
abbrev pub id_of : List ℕ → Option ℕ
id_of text = (if list_all is_ascii_digit text && (nat_lt 0 (length text) && (nat_le (length text) 10 && nat_lt (digits_value 10 text) (2 ^ 32)))
    then Some (digits_value 10 text) else None)

abbrev pub id_at : List Element → ℕ → Option ℕ
id_at tree e = option_and_then id_of (attribute_at tree e (codes "id"))
