-- The text of what is made is read as one value.
use Rattle.std.proofs.Common.{◌≡◌, ◌∙◌, ℕ, suc, ◌≤◌, max, List, [], ◌∷◌, Some, option_and_then, refl, sym, ap, arith, append-nil}
use Rattle.json.specs.Json as json
use Rattle.json.specs.Tree as shape
use Rattle.json.specs.Tree.{json_tokens, HasNumbers, ItemsHaveNumbers, MembersHaveNumbers}
use Rattle.json.proofs.Printed.Tokens.{tokens-print}
use Rattle.json.proofs.Printed.Trees.{value-json_tokens, ArePrintable-json_tokens}
use Rattle.serde_json.specs.Data.{Data, string, array, object, Items, no_items, item, Members, no_members, put}
use Rattle.serde_json.specs.Read.{read, of_json, of_items, of_members, max_depth}
use Rattle.spot_terms.specs.Samples.{Made, leaf, branch, Mades, nothing, further}
use Rattle.sample_roads.specs.JsonOf.{members_of, behind_members, json_of, items_of, text_of}

-- ---- the value

abbrev pub put_all : List (List ℕ × List ℕ) → Members → Members
put_all [] found = found
put_all (a ∷ rest) found = put_all rest (put a.0 (string a.1) found)

abbrev pub behind_object : List (List ℕ × List ℕ) → Items → Items
behind_object [] ds = ds
behind_object (a ∷ rest) ds = item (object (put_all (a ∷ rest) no_members)) ds

abbrev mutual
  pub data_of : Made → Data
  data_of (leaf name text) = array (item (string name) (item (string text) no_items))
  data_of (branch name attributes ms) = array (item (string name) (behind_object attributes (datas_of ms)))

  pub datas_of : Mades → Items
  datas_of nothing = no_items
  datas_of (further m ms) = item (data_of m) (datas_of ms)

members_are : (attributes : List (List ℕ × List ℕ)) (found : Members) → of_members (members_of attributes) found ≡ Some (put_all attributes found)
members_are [] found = refl
members_are (a ∷ rest) found = members_are rest (put a.0 (string a.1) found)

behind_are : (attributes : List (List ℕ × List ℕ)) (js : json.Items) (ds : Items) → of_items js ≡ Some ds → of_items (behind_members attributes js) ≡ Some (behind_object attributes ds)
behind_are [] js ds e = e
behind_are (a ∷ rest) js ds e = rw (members_are rest (put a.0 (string a.1) no_members)) (rw e refl)

mutual
  pub value_is : (m : Made) → of_json (json_of m) ≡ Some (data_of m)
  value_is (leaf name text) = refl
  value_is (branch name attributes ms) = rw (behind_are attributes (items_of ms) (datas_of ms) (values_are ms)) refl

  values_are : (ms : Mades) → of_items (items_of ms) ≡ Some (datas_of ms)
  values_are nothing = refl
  values_are (further m ms) = rw (value_is m) (rw (values_are ms) refl)

-- ---- there is no number in it

members_have : (attributes : List (List ℕ × List ℕ)) → MembersHaveNumbers (members_of attributes)
members_have [] = tt
members_have (a ∷ rest) = (tt, members_have rest)

behind_have : (attributes : List (List ℕ × List ℕ)) (js : json.Items) → ItemsHaveNumbers js → ItemsHaveNumbers (behind_members attributes js)
behind_have [] js h = h
behind_have (a ∷ rest) js h = ((tt, members_have rest), h)

mutual
  pub no_numbers : (m : Made) → HasNumbers (json_of m)
  no_numbers (leaf name text) = (tt, (tt, tt))
  no_numbers (branch name attributes ms) = (tt, behind_have attributes (items_of ms) (no_numbers_in ms))

  no_numbers_in : (ms : Mades) → ItemsHaveNumbers (items_of ms)
  no_numbers_in nothing = tt
  no_numbers_in (further m ms) = (no_numbers m, no_numbers_in ms)

-- ---- how deep it nests

abbrev mutual
  pub height : Made → ℕ
  height (leaf name text) = 1
  height (branch name attributes ms) = suc (max 1 (height_in ms))

  pub height_in : Mades → ℕ
  height_in nothing = 0
  height_in (further m ms) = max (height m) (height_in ms)

members_flat : (attributes : List (List ℕ × List ℕ)) → shape.members_depth (members_of attributes) ≡ 0
members_flat [] = refl
members_flat (a ∷ rest) = omega (arith, members_flat rest)

behind_deep : (attributes : List (List ℕ × List ℕ)) (js : json.Items) → shape.items_depth (behind_members attributes js) ≤ max 1 (shape.items_depth js)
behind_deep [] js = omega arith
behind_deep (a ∷ rest) js = omega (arith, members_flat rest)

mutual
  pub deep : (m : Made) → shape.depth (json_of m) ≤ height m
  deep (leaf name text) = omega arith
  deep (branch name attributes ms) = omega (arith, behind_deep attributes (items_of ms), deep_in ms)

  deep_in : (ms : Mades) → shape.items_depth (items_of ms) ≤ height_in ms
  deep_in nothing = omega arith
  deep_in (further m ms) = omega (arith, deep m, deep_in ms)

-- ---- the text is read as the value

pub reads_back : (m : Made) → height m ≤ max_depth → read (text_of m) ≡ Some (data_of m)
reads_back m low =
    ap (option_and_then of_json)
    (ap (option_and_then (λ p. json.if_last p.0 p.1))
    (ap (json.value max_depth) (tokens-print (json_tokens (json_of m)) (ArePrintable-json_tokens (json_of m) (no_numbers m)) ∙ sym (append-nil (json_tokens (json_of m))))
    ∙ value-json_tokens (json_of m) max_depth [] (omega (arith, deep m, low))))
    ∙ value_is m
