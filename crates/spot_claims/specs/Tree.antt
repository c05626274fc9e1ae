-- The JSON reading of bytes, and the element tree of a JSON value: its elements in document order, or the first value
-- that fails to be one.
use Rattle.std.specs.Prelude.{◌≡◌, ℕ, ◌+◌, ◌<◌, ◌≤◌, ◌==◌, ◌&&◌, ◌||◌, Bool, true, false, nat_lt, List, [], ◌∷◌, ◌++◌, length, reverse, filter, flat_map, find, slice_index_or, if◌then◌else◌, Option, Some, None, option_map, codes, refl}
use Rattle.spot_terms.specs.declared.limits.TheConstants.{MOST_BYTES}
use Rattle.std.specs.List.{All}
use Rattle.std.specs.Str.{IsUtf8, bytes_eq}
use Rattle.spot_terms.specs.Lists.{AreDistinct}
use Rattle.serde_json.proofs.OnLiterals.{serde_json_on_literals}
use Rattle.serde_json.specs.Data.{Data, null, boolean, number, string, array, object, unsigned, Items, no_items, item, Members, no_members, member}
use Rattle.serde_json.specs.Read.{read}

-- ---- the JSON reading

-- the bytes are the JSON text of this value: UTF-8, with nesting of at most 127
abbrev pub IsJsonOf : List ℕ → Data → Type 0
IsJsonOf bytes d = IsUtf8 bytes × (read bytes ≡ Some d)

-- the bytes are no JSON text
abbrev pub IsNoJson : List ℕ → Type 0
IsNoJson bytes = IsUtf8 bytes → read bytes ≡ None

-- ---- which values must be elements

-- the items behind the attributes, where the first is an object
abbrev pub behind_attributes : Items → Items
behind_attributes no_items = no_items
behind_attributes (item (object ms) ds) = ds
behind_attributes (item d ds) = item d ds

-- the items that are neither the name nor the attributes
abbrev pub content : Items → Items
content no_items = no_items
content (item d ds) = behind_attributes ds

-- the values in an item that must be elements, in document order; a string needn't be one
abbrev mutual
  pub wanted : Data → List Data
  wanted null = null ∷ []
  wanted (boolean b) = boolean b ∷ []
  wanted (number n) = number n ∷ []
  wanted (string s) = []
  wanted (array ds) = array ds ∷ wanted_behind_name ds
  wanted (object ms) = object ms ∷ []

  pub wanted_behind_name : Items → List Data
  wanted_behind_name no_items = []
  wanted_behind_name (item d ds) = wanted_behind_attributes ds

  pub wanted_behind_attributes : Items → List Data
  wanted_behind_attributes no_items = []
  wanted_behind_attributes (item (object ms) ds) = wanted_in ds
  wanted_behind_attributes (item d ds) = wanted d ++ wanted_in ds

  pub wanted_in : Items → List Data
  wanted_in no_items = []
  wanted_in (item d ds) = wanted d ++ wanted_in ds

-- the whole value must be an element too
abbrev pub wanted_of : Data → List Data
wanted_of (string s) = string s ∷ []
wanted_of d = wanted d

-- ---- which value is an element by itself

abbrev pub is_string : Data → Bool
is_string (string s) = true
is_string d = false

abbrev pub is_name : Data → Bool
is_name (string s) = nat_lt 0 (length s)
is_name d = false

abbrev pub are_strings : Members → Bool
are_strings no_members = true
are_strings (member k d ms) = is_string d && are_strings ms

abbrev pub begins_well : Items → Bool
begins_well no_items = true
begins_well (item (object ms) ds) = are_strings ms
begins_well (item d ds) = true

-- the first item is a name
abbrev pub is_named : Items → Bool
is_named no_items = false
is_named (item d ds) = is_name d

-- the attributes, where there are any, are strings
abbrev pub is_well_attributed : Items → Bool
is_well_attributed no_items = true
is_well_attributed (item d ds) = begins_well ds

abbrev pub has_name : Items → Bool
has_name ds = is_named ds && is_well_attributed ds

-- an array with a name, whose attributes are strings
abbrev pub is_element : Data → Bool
is_element (array ds) = has_name ds
is_element d = false

-- ---- what an element says

pub record Element : Type 0 where
  pub name : List ℕ
  pub attributes : List (List ℕ × List ℕ)
  pub text : List ℕ
  pub children : List ℕ

abbrev pub no_element : Element
no_element = record { name = []; attributes = []; text = []; children = [] }

abbrev pub with_children : Element → List ℕ → Element
with_children e children = record e { children = children }

abbrev pub string_of : Data → List ℕ
string_of (string s) = s
string_of d = []

abbrev pub name_of : Items → List ℕ
name_of no_items = []
name_of (item d ds) = string_of d

abbrev pub pairs_of : Members → List (List ℕ × List ℕ)
pairs_of no_members = []
pairs_of (member k d ms) = (k, string_of d) ∷ pairs_of ms

abbrev pub attributes_at : Items → List (List ℕ × List ℕ)
attributes_at no_items = []
attributes_at (item (object ms) ds) = pairs_of ms
attributes_at (item d ds) = []

abbrev pub attributes_of : Items → List (List ℕ × List ℕ)
attributes_of no_items = []
attributes_of (item d ds) = attributes_at ds

-- the strings among the items, joined
abbrev pub joined : Items → List ℕ
joined no_items = []
joined (item d ds) = string_of d ++ joined ds

-- a space, a tab, a line feed or a carriage return
abbrev pub is_blank : ℕ → Bool
is_blank b = (b == 32) || ((b == 9) || ((b == 10) || (b == 13)))

abbrev pub without_front : List ℕ → List ℕ
without_front [] = []
without_front (b ∷ bs) = if is_blank b then without_front bs else b ∷ bs

-- without the blanks at both ends
abbrev pub trimmed : List ℕ → List ℕ
trimmed bs = reverse (without_front (reverse (without_front bs)))

-- the numbers of the elements among the items, where the first has the number n
abbrev pub children_from : ℕ → Items → List ℕ
children_from n no_items = []
children_from n (item d ds) = if is_string d then children_from n ds else n ∷ children_from (n + length (wanted d)) ds

abbrev pub element_at : ℕ → Items → Element
element_at n ds = record {
  name = name_of ds;
  attributes = attributes_of ds;
  text = trimmed (joined (content ds));
  children = children_from (n + 1) (content ds);
}

abbrev pub element_of : ℕ → Data → Element
element_of n (array ds) = element_at n ds
element_of n d = element_at n no_items

-- the elements, numbered from n
abbrev pub numbered : ℕ → List Data → List Element
numbered n [] = []
numbered n (d ∷ ds) = element_of n d ∷ numbered (n + 1) ds

-- ---- the tree of a value, or where it is none

-- the first of the values that is no element, by its number from n
abbrev pub fault_from : ℕ → List Data → Option ℕ
fault_from n [] = None
fault_from n (d ∷ ds) = if is_element d then fault_from (n + 1) ds else Some n

abbrev pub tree_of : Data → List Element
tree_of d = numbered 0 (wanted_of d)

abbrev pub fault_of : Data → Option ℕ
fault_of d = fault_from 0 (wanted_of d)

-- ---- the tree of the bytes

-- the bytes are a JSON text, each value of which that must be an element is one, and these are its elements
pub record IsTreeOf (bytes : List ℕ) (tree : List Element) : Type 0 where
  pub value : Data
  pub json : IsJsonOf bytes value
  pub sound : fault_of value ≡ None
  pub elements : tree ≡ tree_of value

-- the bytes are a JSON text, and the first of its values that must be an element and is none has this number
pub record HasFaultAt (bytes : List ℕ) (place : ℕ) : Type 0 where
  pub value : Data
  pub json : IsJsonOf bytes value
  pub fault : fault_of value ≡ Some place

-- each number is at least low and greater than the one before
abbrev pub Rising : ℕ → List ℕ → Type 0
Rising low [] = Unit {0}
Rising low (c ∷ cs) = (low ≤ c) × Rising (c + 1) cs

-- the numbers of the children of all elements
abbrev pub all_children : List Element → List ℕ
all_children tree = flat_map (λ e. e.children) tree

-- there is an element, there are at most as many as an input has bytes, and the numbers of children are those of elements
-- and rise; the first element is no child, and each other at most once
pub record IsTree (tree : List Element) : Type 0 where
  pub some : 0 < length tree
  pub few : length tree ≤ MOST_BYTES
  pub within : All (λ e. All (λ c. c < length tree) e.children) tree
  pub rising : All (λ e. Rising 0 e.children) tree
  pub once : AreDistinct (0 ∷ all_children tree)

-- ---- questions

abbrev pub element_in : List Element → ℕ → Element
element_in tree e = slice_index_or tree e no_element

-- the text of the attribute with this key
abbrev pub value_at : List ℕ → List (List ℕ × List ℕ) → Option (List ℕ)
value_at key attributes = option_map (λ a. a.1) (find (λ a. bytes_eq a.0 key) attributes)

abbrev pub attribute_at : List Element → ℕ → List ℕ → Option (List ℕ)
attribute_at tree e key = value_at key (element_in tree e).attributes

abbrev pub text_at : List Element → ℕ → List ℕ
text_at tree e = (element_in tree e).text

abbrev pub is_called : List Element → List ℕ → ℕ → Bool
is_called tree name e = bytes_eq (element_in tree e).name name

-- the children of a name, in document order
abbrev pub all_named : List Element → List ℕ → ℕ → List ℕ
all_named tree name e = filter (is_called tree name) (element_in tree e).children

-- the first child of a name, if there is one
abbrev pub first_named : List Element → List ℕ → ℕ → Option ℕ
first_named tree name e = find (is_called tree name) (element_in tree e).children

-- ---- examples: `["a",{"k":"v"}," x ",["b"],["c",["d"]]]`, and `["commonRoad",7]`

row_tree : tree_of (array (item (string (codes "a")) (item (object (member (codes "k") (string (codes "v")) no_members)) (item (string (codes " x ")) (item (array (item (string (codes "b")) no_items)) (item (array (item (string (codes "c")) (item (array (item (string (codes "d")) no_items)) no_items))) no_items))))))
    ≡ record { name = codes "a"; attributes = (codes "k", codes "v") ∷ []; text = codes "x"; children = 1 ∷ 2 ∷ [] }
    ∷ record { name = codes "b"; attributes = []; text = []; children = [] }
    ∷ record { name = codes "c"; attributes = []; text = []; children = 3 ∷ [] }
    ∷ record { name = codes "d"; attributes = []; text = []; children = [] } ∷ []
row_tree = refl

row_seven : read (codes "[\"commonRoad\",7]") ≡ Some (array (item (string (codes "commonRoad")) (item (number (unsigned 7)) no_items)))
unfolding serde_json_on_literals
row_seven = refl

row_place : fault_of (array (item (string (codes "commonRoad")) (item (number (unsigned 7)) no_items))) ≡ Some 1
row_place = refl
