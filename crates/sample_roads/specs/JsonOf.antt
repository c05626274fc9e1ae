-- The JSON values of made elements.
use Rattle.std.specs.Prelude.{ℕ, List, [], ◌∷◌}
use Rattle.json.specs.Json as json
use Rattle.json.specs.Print.{print}
use Rattle.json.specs.Tree.{json_tokens}
use Rattle.spot_terms.specs.Samples.{Made, leaf, branch, Mades, nothing, further}

abbrev pub members_of : List (List ℕ × List ℕ) → json.Members
members_of [] = json.no_members
members_of (a ∷ rest) = json.member a.0 (json.string a.1) (members_of rest)

-- an element without attributes has no object
abbrev pub behind_members : List (List ℕ × List ℕ) → json.Items → json.Items
behind_members [] js = js
behind_members (a ∷ rest) js = json.item (json.object (members_of (a ∷ rest))) js

abbrev mutual
  pub json_of : Made → json.Json
  json_of (leaf name text) = json.array (json.item (json.string name) (json.item (json.string text) json.no_items))
  json_of (branch name attributes ms) = json.array (json.item (json.string name) (behind_members attributes (items_of ms)))

  pub items_of : Mades → json.Items
  items_of nothing = json.no_items
  items_of (further m ms) = json.item (json_of m) (items_of ms)

-- as it is printed
abbrev pub text_of : Made → List ℕ
text_of m = print (json_tokens (json_of m))
