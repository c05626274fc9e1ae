-- The tokens of what is made, so that they can be written one after another.
use Rattle.std.specs.Prelude.{ℕ, List, [], ◌∷◌, codes}
use Rattle.std.specs.List.{flat_map}
use Rattle.json.specs.Token.{Token, begin_object, end_object, begin_array, key, string}
use Rattle.json.specs.Tree.{json_tokens}
use Rattle.spot_terms.specs.Samples.{Made}
use Rattle.sample_roads.specs.JsonOf.{json_of}

abbrev pub tokens_of : Made → List Token
tokens_of m = json_tokens (json_of m)

-- the tokens of elements one after another
abbrev pub all_tokens : List Made → List Token
all_tokens ms = flat_map tokens_of ms

abbrev pub opening : List ℕ → List Token
opening name = begin_array ∷ string name ∷ []

abbrev pub opening_with_id : List ℕ → List ℕ → List Token
opening_with_id name id = begin_array ∷ string name ∷ begin_object ∷ key (codes "id") ∷ string id ∷ end_object ∷ []

-- a reference to a neighbour that is driven in the same direction
abbrev pub same_direction : List ℕ → List Token
same_direction id = begin_object ∷ key (codes "ref") ∷ string id ∷ key (codes "drivingDir") ∷ string (codes "same") ∷ end_object ∷ []

-- the root, with the version and a step of 0.1 s
abbrev pub root_opening : List Token
root_opening = begin_array ∷ string (codes "commonRoad") ∷ begin_object ∷ key (codes "commonRoadVersion") ∷ string (codes "2020a") ∷ key (codes "timeStepSize") ∷ string (codes "0.1") ∷ end_object ∷ []
